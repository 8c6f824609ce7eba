-- What the code holds of a position: the paths as numbers, and a byte for each choice.
use Rattle.std.specs.Prelude.{ℕ, ◌+◌, ◌*◌, ◌/◌, ◌%◌, ◌≤◌, ◌<◌, ◌≡◌, List, pos, length, get_or, T}
use Rattle.std.specs.Float.{nan}
use Rattle.std.specs.Float.Ieee.Scale.{finite}
use Rattle.least_cost.specs.Position.{Position}
use Rattle.beam_paths.specs.Path.{Path, Way, way_remaining, way_cost, way_levels, no_way}
use Rattle.beam_paths.specs.declared.Paths.{Paths}

-- stands past the last path
abbrev pub no_path : Path
no_path = no_way.path

-- s holds the counts and costs of the paths
pub record PathsFor (xs : List Path) (s : Paths) : Type 0 where
  pub count_is : length xs ≡ s.count
  pub few : s.count ≤ 3
  pub three : length s.remaining ≡ 3
  pub six : length s.costs ≡ 6
  pub remaining_is : (j : ℕ) → j < length xs → get_or s.remaining j 0 ≡ (get_or xs j no_path).remaining
  pub cost_is : (j p : ℕ) → j < length xs → p ≤ 1 → get_or s.costs (2 * j + p) nan ≡ (get_or xs j no_path).cost p

-- the way that a byte names: the path above the index of the level
unfoldable pub way_of : Position → List Path → ℕ → Way
way_of q xs b = record { path = get_or xs (b / 16) no_path; level = get_or q.candidates (b % 16) (pos 0) }

-- b names the way that y came by, for `prev` p
pub record Named (q : Position) (xs : List Path) (p b : ℕ) (y : Path) : Type 0 where
  pub path : b / 16 < length xs
  pub level : b % 16 < length q.candidates
  pub levels_are : y.levels p ≡ way_levels (way_of q xs b)
  pub cost_is : y.cost p ≡ way_cost q p (way_of q xs b)
  pub remaining_is : y.remaining ≡ way_remaining (way_of q xs b)

-- where a path ys is of finite cost, its byte names the way that it came by from the paths xs
pub record Remembered (q : Position) (xs ys : List Path) (choices : List ℕ) : Type 0 where
  pub six : length choices ≡ 6
  pub each : (j p : ℕ) → j < length ys → p ≤ 1 → T (finite ((get_or ys j no_path).cost p)) → Named q xs p (get_or choices (2 * j + p) 0) (get_or ys j no_path)
