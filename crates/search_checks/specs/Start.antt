-- What follows the window, where a search starts.
use Rattle.std.specs.Prelude.{◌≡◌}
use Rattle.block.specs.Block.{Block}
use Rattle.block.specs.Band.{past_window, tail_of}
use Rattle.prices.specs.Book.{Book}
use Rattle.weights.specs.declared.Window.{Window}
use Rattle.search_checks.specs.declared.start.Start.{Start}

-- the nonzero levels there, and the tail's cost for either `prev`
pub record Starts (v : Window) (book : Book) (b : Block) (s : Start) : Type 0 where
  pub past_is : s.past ≡ past_window v b
  pub zero : s.zero ≡ (tail_of v book b).cost 0
  pub one : s.one ≡ (tail_of v book b).cost 1
