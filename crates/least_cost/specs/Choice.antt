-- A choice of levels for a list of positions: what it counts, whether it lies in the band, and what it costs, every sum rounded once. Assumes nothing.
use Rattle.std.specs.Prelude.{ℕ, ◌+◌, Bool, true, false, not, ◌&&◌, ◌||◌, ℤ, Float}
use mathlib.Core.List.{List, [], ◌∷◌, Memᴰ}
use Rattle.std.specs.Float.{inf, binary32}
use Rattle.std.specs.Float.Ieee.{add}
use Rattle.std.specs.Float.Ieee.Scale.{finite}
use Rattle.least_cost.specs.Position.{Position, Tail, nz, within}

-- a choice takes one listed candidate at each position
pub data Choice : List Position → List ℤ → Type 0 where
  done : Choice [] []
  takes : {q : Position} {qs : List Position} {c : ℤ} {cs : List ℤ} → Memᴰ c q.candidates → Choice qs cs → Choice (q ∷ qs) (c ∷ cs)

-- the nonzero levels from here to the end, s of them past the window
unfoldable pub remaining : ℕ → List ℤ → ℕ
remaining s [] = s
remaining s (c ∷ cs) = nz c + remaining s cs

-- at each position, what follows it is within the position's band
unfoldable pub in_band : ℕ → List Position → List ℤ → Bool
in_band s [] cs = true
in_band s (q ∷ qs) [] = false
in_band s (q ∷ qs) (c ∷ cs) = within q (remaining s cs) && in_band s qs cs

-- The tail for the last `prev`, plus each local cost from the last position back to the first. Levels that are too few have no cost.
unfoldable pub cost_of : Tail → List Position → ℕ → List ℤ → Float
cost_of t [] p cs = t.cost p
cost_of t (q ∷ qs) p [] = inf false
cost_of t (q ∷ qs) p (c ∷ cs) = add binary32 (q.price (remaining t.count (c ∷ cs)) p c) (cost_of t qs (nz c) cs)

-- a choice's cost has an infinite term: a local cost, or the tail
unfoldable pub has_infinite : Tail → List Position → ℕ → List ℤ → Bool
has_infinite t [] p cs = not (finite (t.cost p))
has_infinite t (q ∷ qs) p [] = true
has_infinite t (q ∷ qs) p (c ∷ cs) = not (finite (q.price (remaining t.count (c ∷ cs)) p c)) || has_infinite t qs (nz c) cs
