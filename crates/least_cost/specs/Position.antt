-- What a search over a list of positions is given. A level is an integer, and `prev` tells whether the level before is nonzero: 1 where it is, else 0.
-- Remaining at a position counts the nonzero levels from there to the end, its own included. Assumes nothing.
use Rattle.std.specs.Prelude.{ℕ, zero, suc, ◌-◌, ◌≤◌, Bool, ◌&&◌, ℤ, pos, negsuc, T, leb, Float}
use mathlib.Core.List.{List, Memᴰ}
use Rattle.costs.specs.Cost.{cost}

-- 1 for a nonzero level, 0 for 0: what a level adds to the count, and what it is to the next position as `prev`
unfoldable pub nz : ℤ → ℕ
nz (pos zero) = 0
nz (pos (suc n)) = 1
nz (negsuc n) = 1

-- One position of the window: the levels that it may take, in the order in which they are listed; the fewest and the most nonzero levels that may follow it (the band);
-- and the local cost of a level, by what remains there (the level included) and by `prev`.
pub record Position : Type 0 where
  pub candidates : List ℤ
  pub low : ℕ
  pub high : ℕ
  pub price : ℕ → ℕ → ℤ → Float

-- What follows the window, which no choice changes: its count of nonzero levels, and its cost by the window's last `prev`.
pub record Tail : Type 0 where
  pub count : ℕ
  pub cost : ℕ → Float

-- r nonzero levels may follow the position
unfoldable pub within : Position → ℕ → Bool
within q r = leb q.low r && leb r q.high

-- where r remain, the position may take c: c is among the r, and the others are within the band
unfoldable pub allowed : Position → ℕ → ℤ → Bool
allowed q r c = leb (nz c) r && within q (r - nz c)

-- every local cost that a search asks for is a cost
pub record Priced (q : Position) : Type 0 where
  pub prices : (r p : ℕ) (c : ℤ) → p ≤ 1 → Memᴰ c q.candidates → T (allowed q r c) → T (cost (q.price r p c))
