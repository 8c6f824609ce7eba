-- Where a cost can be finite: what remains lies between the tail's count and that plus the positions, and within the first position's band. Assumes nothing.
use mathlib.Core.Path.{subst}
use Prim.Native.Nat.{ℕ, suc, ◌+◌, ◌≤◌}
use native.Mathlib.Nat.{le_refl}
use native.Mathlib.Omega.{arith}
use mathlib.Core.List.{List, [], ◌∷◌}
use lib.IntN.{ℤ}
use lib.Dec.{T, leb, leb→le}
use lib.ListN.{length}
use lib.Ieee.Fits.{and_l, and_r}
use lib.Ieee.Scale.{finite}
use Rattle.least_cost.specs.Position.{Position, Tail, within}
use Rattle.least_cost.specs.Choice.{Choice, done, takes, remaining, in_band}
use Rattle.least_cost.specs.Search.{best, walk}
use Rattle.least_cost.proofs.Trial.{nz-le}
use Rattle.least_cost.proofs.Best.{AllPriced, walked}

-- s past the window and n positions
pub record Reach (s n r : ℕ) : Type 0 where
  pub least : s ≤ r
  pub most : r ≤ s + n

-- the first position's band, by what remains there
pub record Near (q : Position) (r : ℕ) : Type 0 where
  pub least : q.low ≤ r
  pub most : r ≤ suc q.high

pub choice-reach : (s : ℕ) {qs : List Position} {cs : List ℤ} → Choice qs cs → Reach s (length qs) (remaining s cs)
unfolding remaining
choice-reach s done = record { least = le_refl s; most = omega arith }
choice-reach s (takes {q} {qs} {c} {cs} m k) = let b = choice-reach s k in let z = nz-le c in record { least = omega arith; most = omega arith }

pub within-bounds : (q : Position) (r : ℕ) → T (within q r) → (q.low ≤ r) × (r ≤ q.high)
unfolding within
within-bounds q r h = (leb→le q.low r (and_l (leb q.low r) (leb r q.high) h), leb→le r q.high (and_r (leb q.low r) (leb r q.high) h))

pub choice-near : (s : ℕ) (q : Position) (qs : List Position) (cs : List ℤ) → T (in_band s (q ∷ qs) cs) → Near q (remaining s cs)
unfolding in_band remaining
choice-near s q qs [] h = absurd h
choice-near s q qs (c ∷ cs) h =
    let b = within-bounds q (remaining s cs) (and_l (within q (remaining s cs)) (in_band s qs cs) h) in
    let z = nz-le c in
    record { least = omega arith; most = omega arith }

module _ (t : Tail) where
  pub best-reach : (qs : List Position) (r p : ℕ) → AllPriced t qs → p ≤ 1 → T (finite (best t qs r p)) → Reach t.count (length qs) r
  best-reach qs r p Q P h = let w = walked t qs r p Q P h in subst (Reach t.count (length qs)) w.count (choice-reach t.count w.choice)

  pub best-near : (q : Position) (qs : List Position) (r p : ℕ) → AllPriced t (q ∷ qs) → p ≤ 1 → T (finite (best t (q ∷ qs) r p)) → Near q r
  best-near q qs r p Q P h =
      let w = walked t (q ∷ qs) r p Q P h in
      subst (Near q) w.count (choice-near t.count q qs (walk t (q ∷ qs) r p) w.band)
