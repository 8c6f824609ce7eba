-- A table's row may stand for the later positions: the recursion asks of them only what lies in the band. Assumes nothing.
use mathlib.Core.Path.{◌≡◌}
use Prim.Native.Nat.{ℕ, ◌-◌}
use mathlib.Core.Bool.{false}
use mathlib.Core.List.{List, ◌∷◌, Memᴰ as Mem}
use lib.IntN.{ℤ, pos}
use lib.Dec.{T}
use lib.Ieee.{Float, inf}
use Rattle.least_cost.specs.Position.{Position, Tail, nz, allowed}
use Rattle.least_cost.specs.Search.{least, holder, trial, step, best, pick}
use Rattle.least_cost.proofs.First.{least-same, holder-same}
use Rattle.least_cost.proofs.Trial.{trial-listed}
use Rattle.least_cost.proofs.Step.{step_same}

-- d says what `best` does of the later positions, wherever a listed level is allowed
pub record Agrees (t : Tail) (q : Position) (qs : List Position) (r : ℕ) (d : ℕ → ℕ → Float) : Type 0 where
  pub agrees : (c : ℤ) → Mem c q.candidates → T (allowed q r c) → best t qs (r - nz c) (nz c) ≡ d (r - nz c) (nz c)

module _ (t : Tail) (q : Position) (qs : List Position) (r p : ℕ) (d : ℕ → ℕ → Float) (A : Agrees t q qs r d) where
  steps-same : (c : ℤ) → Mem c (trial q.candidates) → step q r p (best t qs) c ≡ step q r p d c
  steps-same c m = step_same q r p (best t qs) d c (A.agrees c (trial-listed q.candidates c m))

  pub best-row : best t (q ∷ qs) r p ≡ least (step q r p d) (inf false) (trial q.candidates)
  unfolding best
  best-row = least-same (step q r p (best t qs)) (step q r p d) (inf false) (trial q.candidates) steps-same

  pub pick-row : pick t q qs r p ≡ holder (step q r p d) (inf false) (pos 0) (trial q.candidates)
  unfolding pick
  pick-row = holder-same (step q r p (best t qs)) (step q r p d) (inf false) (pos 0) (trial q.candidates) steps-same
