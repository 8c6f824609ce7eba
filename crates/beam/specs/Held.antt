-- What the code holds of a block's search: the paths and choices of its positions, and what the search finds.
use Rattle.std.specs.Prelude.{ℕ, suc, ◌+◌, ◌*◌, ◌≤◌, ◌<◌, ◌≡◌, List, ℤ, length, get_or, T, Float}
use Rattle.std.specs.Float.Ieee.Scale.{finite}
use Rattle.beam_paths.specs.Held.{PathsFor, Named, no_path}
use Rattle.beam_paths.specs.Path.{Path}
use Rattle.beam_paths.specs.declared.Paths.{Paths}
use Rattle.block.specs.Block.{Block}
use Rattle.block.specs.Band.{position_at, tail_of, half_width}
use Rattle.block.specs.Cost.{first_prev}
use Rattle.prices.specs.Book.{Book}
use Rattle.prices.specs.Checks.{book_refusal}
use Rattle.search_checks.specs.Checked.{positions, Searched}
use Rattle.steps.specs.declared.plan.Plan.{Plan}
use Rattle.weights.specs.declared.Window.{Window}
use Rattle.beam.specs.Beam.{beam_paths, beam_cost, beam_path, problem}
use Rattle.steps.specs.declared.best.Best.{Best}

-- the paths from position i on
abbrev pub paths : Window → Book → Block → ℕ → List Path
paths v book b i = beam_paths (tail_of v book b) (positions half_width v book b i)

-- path j of them
abbrev pub path_at : Window → Book → Block → ℕ → ℕ → Path
path_at v book b i j = get_or (paths v book b i) j no_path

-- six bytes are stored from `at` on, and behind them nothing changes
pub record Stored (at : ℕ) (six before after : List ℕ) : Type 0 where
  pub size : length after ≡ length before
  pub stored : (j : ℕ) → j < 6 → get_or after (at + j) 0 ≡ get_or six j 0
  pub behind : (j : ℕ) → at + 6 ≤ j → get_or after j 0 ≡ get_or before j 0

-- the choices of position i name the way that each path of finite cost came by
pub record ChosenAt (v : Window) (book : Book) (b : Block) (i : ℕ) (choices : List ℕ) : Type 0 where
  pub each : (j p : ℕ) → j < length (paths v book b i) → p ≤ 1 → T (finite ((path_at v book b i j).cost p))
      → Named (position_at half_width v book b i) (paths v book b (suc i)) p (get_or choices (6 * i + (2 * j + p)) 0) (path_at v book b i j)

-- what a position's step leaves
pub record Stepped (v : Window) (book : Book) (b : Block) (i : ℕ) (before after : List ℕ) (s : Paths) : Type 0 where
  pub paths_are : PathsFor (paths v book b i) s
  pub chosen : ChosenAt v book b i after
  pub size : length after ≡ length before
  pub behind : (j : ℕ) → 6 * i + 6 ≤ j → get_or after j 0 ≡ get_or before j 0

-- the positions from i on are done
pub record Reached (v : Window) (book : Book) (b : Block) (i : ℕ) (choices : List ℕ) (s : Paths) : Type 0 where
  pub paths_are : PathsFor (paths v book b i) s
  pub chosen : (j : ℕ) → i ≤ j → j < v.length → ChosenAt v book b j choices

-- paths whose counts have a price
pub record Countable (book : Book) (plan : Plan) (s : Paths) : Type 0 where
  pub priced : book_refusal book ≡ 0
  pub covered : plan.covered ≤ 1024
  pub few : s.count ≤ 3
  pub three : length s.remaining ≡ 3
  pub six : length s.costs ≡ 6
  pub counts : (j : ℕ) → j < s.count → get_or s.remaining j 0 ≤ 65536

-- the cheapest path that is left, and its place among them
pub record Ended (v : Window) (book : Book) (b : Block) (best : Best ℕ) : Type 0 where
  pub cost_is : best.cost ≡ beam_cost (problem v book b)
  pub path_is : path_at v book b 0 best.choice ≡ beam_path (problem v book b)
  pub inside : T (finite best.cost) → best.choice < length (paths v book b 0)

-- a path's levels for its first `prev`
abbrev pub levels_of : Window → Book → Block → ℕ → ℕ → List ℤ
levels_of v book b path count = (path_at v book b 0 path).levels (first_prev b count)

-- what the walk goes by: choices that are done, and a path of finite cost
pub record Walkable (scan : List ℕ) (source inverse : List Float) (levels : List ℤ) (plan : Plan) (choices : List ℕ) (path count : ℕ) : Type 0 where
  pub book : Book
  pub searched : Searched book scan source inverse levels plan
  pub chosen : (j : ℕ) → j < plan.window.length → ChosenAt plan.window book searched.block j choices
  pub room : 6 * plan.window.length ≤ length choices
  pub inside : path < length (paths plan.window book searched.block 0)
  pub cheap : T (finite ((path_at plan.window book searched.block 0 path).cost (first_prev searched.block count)))

-- a search that is done, and what it was of
pub record Done (scan : List ℕ) (source inverse : List Float) (levels : List ℤ) (plan : Plan) (choices : List ℕ) (s : Paths) (best : Best ℕ) : Type 0 where
  pub book : Book
  pub searched : Searched book scan source inverse levels plan
  pub reached : Reached plan.window book searched.block 0 choices s
  pub ended : Ended plan.window book searched.block best
  pub room : 6 * plan.window.length ≤ length choices
