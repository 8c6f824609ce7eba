-- The small product (document 02): blocks of one or two covered blocks, a window of 32 positions, a band of half-width 6. The searches, and what their answers mean, are the first
-- product's, which are stated over half-width and window. So the least-cost rule, refusal 15 with it, is one for both.
use Rattle.std.specs.Prelude.{◌≡◌, Bool, true, cond, leb}
use Rattle.block.specs.Band.{half_width}
use Rattle.block.specs.Block.{Block, covered}
use Rattle.block.specs.Outcome.{Lent, Result, RefusedKeeps, refused}
use Rattle.prices.specs.Book.{Book}
use Rattle.searches.specs.Outcome.{Demanded, search_outcome}
use Rattle.searches.specs.declared.Search.{Search}
use Rattle.weights.specs.Window.{window_for}
use Rattle.weights.specs.declared.Window.{Window}

-- One or two covered blocks. Sides with a 0 pass here, and get 7 in its place.
unfoldable pub check32 : Block → Bool
check32 b = leb (covered b) 2

-- 32 positions. Document 01's 20 and 48 of them may be restored, as far as they lie inside: 20 where c is 1, 32 where it is 2.
abbrev pub small_window : Block → Window
small_window b = window_for 32 (covered b)

-- 32 before everything, and nothing changes; else the search, with its own refusals
unfoldable pub small_outcome : Search → Book → Block → Lent → Result
small_outcome search book b l = cond (check32 b) (search_outcome half_width (small_window b) search book b l) (refused 32 l)

-- What the call promises of the book, the block and what it was lent: `after` is its answer, and what it leaves.
pub record Promised (search : Search) (book : Book) (b : Block) (before : Lent) (after : Result) : Type 0 where
  -- the answer and every buffer
  pub outcome : after ≡ small_outcome search book b before
  -- what the answer means of the levels, the first product's words at this half-width and window: of the trellis the least-cost rule
  pub demanded : check32 b ≡ true → Demanded half_width (small_window b) search book b before after
  -- a refused block keeps every level
  pub keeps : RefusedKeeps b after.lent.levels after.answer
