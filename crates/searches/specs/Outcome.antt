-- What the call over all searches answers and leaves, and what that means, for a band of half-width w and a window v; document 01's are 6 and `window_of c`.
use Rattle.std.specs.Prelude.{ℕ, ◌≡◌, true, cond, eqb, length}
use Rattle.beam.specs.Beam as Beam
use Rattle.beam.specs.Demand as BeamDemand
use Rattle.block.specs.Block.{Block, covered}
use Rattle.block.specs.Checks.{search_refusal, enough_room, choice_bytes, states, valid_width}
use Rattle.block.specs.Outcome.{Lent, Result, RefusedKeeps, cleared, refused, result_of}
use Rattle.greedy.specs.Greedy as Greedy
use Rattle.greedy.specs.Greedy.{CountAnswered}
use Rattle.prices.specs.Book.{Book}
use Rattle.trellis.specs.Demand.{RefusedExactly, LeastAnswered, NeverDearer, AsWide}
use Rattle.trellis.specs.Outcome as Trellis
use Rattle.weights.specs.Window.{window_of}
use Rattle.weights.specs.declared.Window.{Window}
use Rattle.block_checks.specs.declared.Asked.{Asked}
use Rattle.searches.specs.declared.Search.{Search}
use Rattle.searches.specs.declared.Search.TheVariants.{Greedy, Beam, Trellis, Unfactored}

-- What check 14 asks: choice bytes a window position, and costs in each row.
unfoldable pub asked_by : ℕ → Search → Asked
asked_by w Greedy = record { bytes = 0; floats = 0 }
asked_by w Beam = record { bytes = 6; floats = 0 }
asked_by w Trellis = record { bytes = choice_bytes w; floats = states w }
asked_by w Unfactored = record { bytes = choice_bytes w; floats = states w }

-- the number of the first check that refuses; 0 where none does
unfoldable pub refusal_of : ℕ → Window → Search → Book → Block → Lent → ℕ
refusal_of w v search book b l =
    let asked = asked_by w search in
    search_refusal w v book b (enough_room asked.bytes asked.floats v.length (length l.choices) (length l.row_a) (length l.row_b))

-- Of a block that passed its checks. Greedy touches no room, whatever its length; the beam ends with all of the room cleared, the rows too. The trellis's two walks give one outcome.
unfoldable pub searched_outcome : ℕ → Window → Search → Book → Block → Lent → Result
searched_outcome w v Greedy book b l = let o = Greedy.searched_outcome v book b in result_of o.answer o.levels l.choices l.row_a l.row_b
searched_outcome w v Beam book b l =
    record { answer = Beam.answered v book b; lent = cleared (record { levels = Beam.written v book b; choices = l.choices; row_a = l.row_a; row_b = l.row_b }) }
searched_outcome w v Trellis book b l = Trellis.searched_outcome w v book b l
searched_outcome w v Unfactored book b l = Trellis.searched_outcome w v book b l

-- Refused by a check, nothing changes.
unfoldable pub search_outcome : ℕ → Window → Search → Book → Block → Lent → Result
search_outcome w v search book b l =
    cond (eqb (refusal_of w v search book b l) 0) (searched_outcome w v search book b l) (refused (refusal_of w v search book b l) l)

-- document 02: the same answer and buffers for every half-width in range
abbrev pub AnyWidth : ℕ → Window → Search → Book → Block → Lent → Result → Type 0
AnyWidth w v search book b before after = (n : ℕ) → valid_width w ≡ true → valid_width n ≡ true → after ≡ search_outcome n v search book b before

-- What an answer means of the levels that are left. Greedy's count is theirs. The beam's 16 is exact, its answer the cheapest path kept. Of the trellis, demand 3: its 15 is
-- exact, its answer the least cost in the band; and a wider band never costs more. The unfactored walk answers and leaves what the factored one does.
unfoldable pub Demanded : ℕ → Window → Search → Book → Block → Lent → Result → Type 0
Demanded w v Greedy book b before after = CountAnswered v book b after.lent.levels after.answer × AnyWidth w v Greedy book b before after
Demanded w v Beam book b before after =
    BeamDemand.RefusedExactly w v book b before.choices after.answer × BeamDemand.KeptAnswered v book b after.lent.levels after.answer
    × AnyWidth w v Beam book b before after
Demanded w v Trellis book b before after =
    RefusedExactly w v book b before after.answer × LeastAnswered w v book b after.lent.levels after.answer × NeverDearer w v book b before after.answer
    × AsWide w v book b before after
Demanded w v Unfactored book b before after =
    RefusedExactly w v book b before after.answer × LeastAnswered w v book b after.lent.levels after.answer × NeverDearer w v book b before after.answer
    × AsWide w v book b before after
    × (after ≡ search_outcome w v Trellis book b before)

-- What a call promises of the book, the block and what it was lent: `after` is its answer, and what it leaves.
pub record PromisedIn (w : ℕ) (v : Window) (search : Search) (book : Book) (b : Block) (before : Lent) (after : Result) : Type 0 where
  -- the answer and every buffer are those of the search as document 01 tells it
  pub outcome : after ≡ search_outcome w v search book b before
  -- what the answer means of the levels
  pub demanded : Demanded w v search book b before after
  -- a refused block keeps every level
  pub keeps : RefusedKeeps b after.lent.levels after.answer

-- with document 01's window
abbrev pub Promised : ℕ → Search → Book → Block → Lent → Result → Type 0
Promised w search book b before after = PromisedIn w (window_of (covered b)) search book b before after
