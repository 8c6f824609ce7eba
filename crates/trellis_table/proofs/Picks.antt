-- The level that a state of finite cost picks. Assumes nothing.
use mathlib.Core.Path.{refl, subst}
use mathlib.Core.Bool.{false}
use mathlib.Core.List.Memᴰ.{head as here}
use mathlib.Core.List.{List, ◌∷◌, Memᴰ as Mem}
use Prim.Native.Nat.{ℕ, ◌-◌, ◌≤◌}
use lib.Dec.{T}
use lib.Ieee.{Float, inf}
use lib.Ieee.Scale.{finite}
use Rattle.least_cost.specs.Position.{Position, Tail, nz}
use Rattle.least_cost.specs.Search.{trial, step, best, pick}
use Rattle.least_cost.proofs.Best.{AllPriced, best-costs, picked, rest-priced}
use Rattle.least_cost.proofs.First.{found-mem}
use Rattle.least_cost.proofs.Range.{within-bounds}
use Rattle.least_cost.proofs.Step.{step-allowed, step-rest, allowed-among, allowed-within}
use Rattle.least_cost.proofs.Trial.{trial-listed}

module _ (t : Tail) (q : Position) (qs : List Position) (Q : AllPriced t (q ∷ qs)) (r p : ℕ) (P : p ≤ 1) (F : T (finite (best t (q ∷ qs) r p))) where
  cheap-step : T (finite (step q r p (best t qs) (pick t q qs r p)))
  cheap-step = subst (λ (z : Float). T (finite z)) (picked t q qs r p Q P F).value F

  pub member : Mem (pick t q qs r p) q.candidates
  member = trial-listed q.candidates (pick t q qs r p) (found-mem (step q r p (best t qs)) (inf false) (trial q.candidates) (best t (q ∷ qs) r p) (pick t q qs r p) (picked t q qs r p Q P F))

  pub pick-among : nz (pick t q qs r p) ≤ r
  pick-among = allowed-among q r (pick t q qs r p) (step-allowed q r p (best t qs) (pick t q qs r p) cheap-step)

  pub pick-cheap : T (finite (best t qs (r - nz (pick t q qs r p)) (nz (pick t q qs r p))))
  pick-cheap = step-rest q r p (best t qs) (pick t q qs r p) (Q.each q (here refl)) (best-costs t qs (rest-priced Q)) P member cheap-step

  -- what is left of the count after the pick lies in the position's band
  pub pick-within : r - nz (pick t q qs r p) ≤ q.high
  pick-within = (within-bounds q (r - nz (pick t q qs r p)) (allowed-within q r (pick t q qs r p) (step-allowed q r p (best t qs) (pick t q qs r p) cheap-step))).1
