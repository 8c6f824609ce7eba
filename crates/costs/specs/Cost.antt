-- Costs: the floats that a search adds up and compares. A cost is no NaN and its sign is clear; +infinity is one, the cost of what is not allowed.
-- Assumes nothing.
use Rattle.std.specs.Prelude.{ℕ, ◌*◌, ◌^◌, Bool, false, not, ◌&&◌, leb, Float}
use Rattle.std.specs.Float.{nan, inf, fin, Format}
use Rattle.std.specs.Float.Ieee.{low, up, down}

-- no NaN, and the sign is clear (so -0.0 is none)
unfoldable pub cost : Float → Bool
cost nan = false
cost (inf s) = not s
cost (fin s m e) = not s

-- finite, and in size at most a * 2 ^ j of the format's smallest values (2 ^ -149 in binary32)
unfoldable pub bounded : Format → ℕ → ℕ → Float → Bool
bounded f a j nan = false
bounded f a j (inf s) = false
bounded f a j (fin s m e) = leb (m * up e * 2 ^ low f) (a * 2 ^ j * down e)

-- a cost that is +infinity, or at most a * 2 ^ j of the format's smallest values
unfoldable pub capped : Format → ℕ → ℕ → Float → Bool
unfolding bounded
capped f a j nan = false
capped f a j (inf s) = not s
capped f a j (fin s m e) = not s && bounded f a j (fin s m e)
