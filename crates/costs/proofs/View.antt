-- The two kinds of cost, to go by cases. Assumes nothing.
use Prim.Native.Nat.{ℕ}
use mathlib.Core.Bool.{true, false}
use lib.IntN.{ℤ}
use lib.Dec.{T}
use lib.Ieee.{Float, nan, inf, fin}
use Rattle.costs.specs.Cost.{cost}

pub data Cost : Float → Type 0 where
  at-inf : Cost (inf false)
  at-fin : (m : ℕ) (e : ℤ) → Cost (fin false m e)

pub view : (x : Float) → T (cost x) → Cost x
unfolding cost
view nan h = absurd h
view (inf true) h = absurd h
view (inf false) h = at-inf
view (fin true m e) h = absurd h
view (fin false m e) h = at-fin m e

pub viewed : {x : Float} → Cost x → T (cost x)
unfolding cost
viewed at-inf = tt
viewed (at-fin m e) = tt
