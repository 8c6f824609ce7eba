-- What a search goes by once its checks have passed.
use Rattle.std.specs.Prelude.{ℕ, ◌≤◌, ◌≡◌, true, length}
use Rattle.block.specs.Block.{Block}
use Rattle.block.specs.Checks.{enough_room}
use Rattle.block.specs.Outcome.{Lent}
use Rattle.prices.specs.Book.{Book}
use Rattle.search_checks.specs.Checked.{Accepted}
use Rattle.weights.specs.declared.Window.{Window}
use Rattle.searches.specs.Outcome.{asked_by}
use Rattle.searches.specs.declared.Search.{Search}

pub record Searchable (w : ℕ) (v : Window) (search : Search) (book : Book) (b : Block) (l : Lent) : Type 0 where
  pub narrow : w ≤ 12
  pub accepted : Accepted v book b
  -- check 14
  pub room : enough_room (asked_by w search).bytes (asked_by w search).floats v.length (length l.choices) (length l.row_a) (length l.row_b) ≡ true
