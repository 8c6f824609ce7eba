-- What a row stands for in the search for a least cost.
use Rattle.std.specs.Prelude.{ℕ, ◌+◌, ◌-◌, ◌*◌, ◌≤◌, ◌<◌, ◌≡◌, List, ◌∷◌, pos, get_or, length, T, Float}
use Rattle.std.specs.Float.{nan}
use Rattle.std.specs.Float.Ieee.Scale.{finite}
use Rattle.least_cost.specs.Position.{Position, Tail}
use Rattle.least_cost.specs.Search.{best, pick}

-- the row holds the least cost of every state from count `low` to count `high`, and outside these no state has a finite one
pub record RowFor (t : Tail) (qs : List Position) (row : List Float) (low high : ℕ) : Type 0 where
  pub values : (r p : ℕ) → low ≤ r → r ≤ high → p ≤ 1 → get_or row (2 * (r - low) + p) nan ≡ best t qs r p
  pub inside : (r p : ℕ) → p ≤ 1 → T (finite (best t qs r p)) → (low ≤ r) × (r ≤ high)

-- the bytes from `at` on hold the index of the level that each state of finite cost picks
pub record ChoicesFor (t : Tail) (q : Position) (qs : List Position) (choices : List ℕ) (at low : ℕ) : Type 0 where
  pub picks : (r p : ℕ) → p ≤ 1 → T (finite (best t (q ∷ qs) r p)) → get_or q.candidates (get_or choices (at + (2 * (r - low) + p)) 0) (pos 0) ≡ pick t q qs r p
  pub below : (r p : ℕ) → p ≤ 1 → T (finite (best t (q ∷ qs) r p)) → get_or choices (at + (2 * (r - low) + p)) 0 < length q.candidates
