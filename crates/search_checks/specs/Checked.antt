-- What a search goes by once its checks have passed. Its window is the plan's.
use Rattle.std.specs.Prelude.{ℕ, ◌-◌, ◌≡◌, List, ℤ, Float}
use Rattle.block.specs.Block.{Block}
use Rattle.block.specs.Band.{positions_from}
use Rattle.block_checks.specs.Passed.{Passed}
use Rattle.least_cost.specs.Position.{Position}
use Rattle.prices.specs.Book.{Book}
use Rattle.prices.specs.Checks.{book_refusal}
use Rattle.steps.specs.Plan.{Planned, Lists}
use Rattle.steps.specs.declared.plan.Plan.{Plan}
use Rattle.weights.specs.declared.Window.{Window}

-- the positions from i to the window's end
abbrev pub positions : ℕ → Window → Book → Block → ℕ → List Position
positions w v book b i = positions_from w v book b i (v.length - i)

-- a book and a block that passed their checks, room apart
pub record Accepted (v : Window) (book : Book) (b : Block) : Type 0 where
  pub book_passed : book_refusal book ≡ 0
  pub passed : Passed v b

-- .. and the block's plan
pub record Checked (book : Book) (b : Block) (p : Plan) : Type 0 where
  pub book_passed : book_refusal book ≡ 0
  pub passed : Passed p.window b
  pub planned : Planned b p

-- a block that passed its checks, by what the code is handed of it
pub record Searched (book : Book) (scan : List ℕ) (source inverse : List Float) (levels : List ℤ) (plan : Plan) : Type 0 where
  pub block : Block
  pub lists : Lists block scan source inverse levels
  pub checked : Checked book block plan
