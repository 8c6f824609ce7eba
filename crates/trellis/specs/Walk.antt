-- What the walk goes by, and what the search of a block finds.
use Rattle.std.specs.Prelude.{ℕ, ◌*◌, ◌≤◌, ◌≡◌, List, ℤ, length, T, Float}
use Rattle.std.specs.Float.Ieee.Scale.{finite}
use Rattle.block.specs.Block.{Block, covered, input_remaining}
use Rattle.block.specs.Band.{past_window, problem_of, tail_of}
use Rattle.block.specs.Checks.{choice_bytes, states}
use Rattle.block.specs.Cost.{first_prev}
use Rattle.least_cost.specs.Search.{best, walk, least_total, least_count}
use Rattle.prices.specs.Book.{Book}
use Rattle.search_checks.specs.Checked.{positions, Searched}
use Rattle.steps.specs.declared.plan.Plan.{Plan}
use Rattle.trellis_table.specs.Rows.{ChosenFrom}
use Rattle.weights.specs.declared.Window.{Window}
use Rattle.trellis.specs.declared.search.Found.{Found}

-- room for a search, as check 14 asks it
pub record Roomy (width : ℕ) (v : Window) (choices : List ℕ) (row_a row_b : List Float) : Type 0 where
  pub first : states width ≤ length row_a
  pub second : states width ≤ length row_b
  pub choices_long : choice_bytes width * v.length ≤ length choices

-- what the walk goes by: rows and choices that are done, and a count of finite cost
pub record Walkable (width : ℕ) (scan : List ℕ) (source inverse : List Float) (levels : List ℤ) (plan : Plan) (past nonzeros : ℕ) (choices : List ℕ) (count : ℕ) : Type 0 where
  pub narrow : width ≤ 12
  pub book : Book
  pub searched : Searched book scan source inverse levels plan
  pub past_is : past ≡ past_window plan.window searched.block
  pub nonzeros_are : nonzeros ≡ input_remaining searched.block (covered searched.block)
  pub chosen : ChosenFrom width plan.window book searched.block 0 choices
  pub room : choice_bytes width * plan.window.length ≤ length choices
  pub cheap : T (finite (best (tail_of plan.window book searched.block) (positions width plan.window book searched.block 0) count (first_prev searched.block count)))

-- the levels of the walk from `count` on
abbrev pub walked : ℕ → Window → Book → Block → ℕ → List ℤ
walked w v book b count = walk (tail_of v book b) (positions w v book b 0) count (first_prev b count)

-- what the search of a block finds, and the choices that lead to it
pub record FoundIn (w : ℕ) (v : Window) (book : Book) (b : Block) (choices : List ℕ) (f : Found) : Type 0 where
  pub cost_is : f.cost ≡ least_total (problem_of w v book b)
  pub count_is : f.count ≡ least_count (problem_of w v book b)
  pub past_is : f.past ≡ past_window v b
  pub nonzeros_are : f.nonzeros ≡ input_remaining b (covered b)
  pub chosen : ChosenFrom w v book b 0 choices

-- a search that is done, and what it was of
pub record Done (width : ℕ) (scan : List ℕ) (source inverse : List Float) (levels : List ℤ) (plan : Plan) (choices : List ℕ) (f : Found) : Type 0 where
  pub narrow : width ≤ 12
  pub book : Book
  pub searched : Searched book scan source inverse levels plan
  pub found : FoundIn width plan.window book searched.block choices f
  pub room : choice_bytes width * plan.window.length ≤ length choices
