-- A path of the beam, and the ways to take one position more. Assumes nothing.
use Rattle.std.specs.Prelude.{ℕ, ◌+◌, false, List, [], ◌∷◌, ◌++◌, ℤ, pos, Float}
use Rattle.std.specs.Float.{inf, binary32}
use Rattle.std.specs.Float.Ieee.{add}
use Rattle.least_cost.specs.Position.{Position, nz}

-- The nonzero levels that remain from here on, and, for either `prev`, what the path costs and the levels that it chose, from here to the window's end.
pub record Path : Type 0 where
  pub remaining : ℕ
  pub cost : ℕ → Float
  pub levels : ℕ → List ℤ

-- a path behind a position, and the level that the position takes
pub record Way : Type 0 where
  pub path : Path
  pub level : ℤ

unfoldable pub way_remaining : Way → ℕ
way_remaining w = w.path.remaining + nz w.level

-- local cost + the cost of the path, whose `prev` the level is
unfoldable pub way_cost : Position → ℕ → Way → Float
way_cost q p w = add binary32 (q.price (way_remaining w) p w.level) (w.path.cost (nz w.level))

unfoldable pub way_levels : Way → List ℤ
way_levels w = w.level ∷ w.path.levels (nz w.level)

-- the ways in the order in which they are tried: path by path, level by level
unfoldable pub ways_of : Path → List ℤ → List Way
ways_of x [] = []
ways_of x (c ∷ cs) = record { path = x; level = c } ∷ ways_of x cs

unfoldable pub ways : List Path → List ℤ → List Way
ways [] cs = []
ways (x ∷ xs) cs = ways_of x cs ++ ways xs cs

-- stands where no way has a finite cost; its levels are never read
unfoldable pub no_way : Way
no_way = record { path = record { remaining = 0; cost = λ p. inf false; levels = λ p. [] }; level = pos 0 }
