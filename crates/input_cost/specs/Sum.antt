-- The cost of the input's levels, added up from the window's end to its first position.
use Rattle.std.specs.Prelude.{ℕ, zero, suc, ◌+◌, ◌-◌, ◌≤◌, ◌≡◌, List, ℤ, length, Float}
use Rattle.block.specs.Band.{half_width, tail_of}
use Rattle.block.specs.Block.{Block, covered, input_at, input_from, input_remaining}
use Rattle.block.specs.Cost.{first_prev}
use Rattle.least_cost.specs.Choice.{cost_of}
use Rattle.least_cost.specs.Position.{nz}
use Rattle.prices.specs.Book.{Book}
use Rattle.scan.specs.Scan.{Perm}
use Rattle.search_checks.specs.Checked.{positions}
use Rattle.steps.specs.Plan.{Whole}
use Rattle.steps.specs.declared.plan.Plan.{Plan}
use Rattle.weights.specs.declared.Window.{Window}
use Rattle.input_cost.specs.declared.sum.Sum.{Sum}

-- `prev` at window position i, where `remaining` nonzero levels stand from there on
unfoldable pub prev_at : Block → ℕ → ℕ → ℕ
prev_at b zero remaining = first_prev b remaining
prev_at b (suc i) remaining = nz (input_at b (covered b + i))

-- the cost of the levels from window position i on
unfoldable pub cost_from : Window → Book → Block → ℕ → Float
cost_from v book b i =
    cost_of (tail_of v book b) (positions half_width v book b i) (prev_at b i (input_remaining b (covered b + i))) (input_from b (covered b + i) (v.length - i))

-- the sum from window position i on
pub record Summed (v : Window) (book : Book) (b : Block) (i : ℕ) (s : Sum) : Type 0 where
  pub remaining_is : s.remaining ≡ input_remaining b (covered b + i)
  pub cost_is : s.cost ≡ cost_from v book b i

-- the window of a plan lies within the block that the lists are of
pub record Within (p : Plan) (scan : List ℕ) (levels : List ℤ) : Type 0 where
  pub whole : Whole p.covered p.covered scan levels
  pub scanned : Perm scan (length levels)
  pub few : length levels ≤ 65536
  pub some : 1 ≤ p.window.length
  pub fits : p.covered + p.window.length ≤ length scan
