-- A choice (document 01): a listed candidate at each window position, the input's level elsewhere.
use Rattle.std.specs.Prelude.{ℕ, ◌+◌, ◌*◌, ◌≤◌, ◌<◌, ◌≡◌, List, ℤ}
use Rattle.least_cost.specs.Choice.{Choice, remaining}
use Rattle.prices.specs.Book.{Book}
use Rattle.weights.specs.declared.Window.{Window}
use Rattle.block.specs.Band.{past_window, positions_from}
use Rattle.block.specs.Block.{Block, with_levels, covered, input_at, input_from, input_remaining}

-- of a block's levels x, those in the window
unfoldable pub window_levels : Window → Block → List ℤ → List ℤ
window_levels v b x = input_from (with_levels b x) (covered b) v.length

-- The levels x are a choice for the block b. The count of the search problem (its half-width w plays no part) is that of the nonzero levels from scan position c on.
pub record IsChoice (w : ℕ) (v : Window) (book : Book) (b : Block) (x : List ℤ) : Type 0 where
  pub listed : Choice (positions_from w v book b 0 v.length) (window_levels v b x)
  pub before : (k : ℕ) → k < covered b → input_at (with_levels b x) k ≡ input_at b k
  pub after : (k : ℕ) → covered b + v.length ≤ k → k < 64 * covered b → input_at (with_levels b x) k ≡ input_at b k
  pub count : remaining (past_window v b) (window_levels v b x) ≡ input_remaining (with_levels b x) (covered b)
