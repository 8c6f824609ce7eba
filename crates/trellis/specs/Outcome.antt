-- What the trellis answers, and what every lent buffer holds afterwards, for a band of half-width w and a window v; document 01's are 6 and `window_of c`.
use Rattle.std.specs.Prelude.{ℕ, cond, List, eqb, ℤ, length}
use Rattle.std.specs.Float.Ieee.Scale.{finite}
use Rattle.block.specs.Band.{problem_of}
use Rattle.block.specs.Block.{Block, covered}
use Rattle.block.specs.Checks.{search_refusal, trellis_room, wide_room}
use Rattle.block.specs.Outcome.{Lent, Result, cleared, refused}
use Rattle.block.specs.Answer.{Answer}
use Rattle.block.specs.Answer.{Cost, Refused}
use Rattle.least_cost.specs.Search.{least_total, least_count, least_levels}
use Rattle.prices.specs.Book.{Book}
use Rattle.scan.specs.Scan.{put}
use Rattle.weights.specs.declared.Window.{Window}

-- the least cost in the band and its count, or 15 where it is infinite
unfoldable pub answered : ℕ → Window → Book → Block → Answer
answered w v book b =
    let p = problem_of w v book b in
    cond (finite (least_total p)) (Cost (least_total p) (least_count p)) (Refused 15)

-- the levels that have it, each at its place; after 15 the block is as it was
unfoldable pub written : ℕ → Window → Book → Block → List ℤ
written w v book b =
    let p = problem_of w v book b in
    cond (finite (least_total p)) (put b.scan (least_levels p) (covered b) v.length b.levels) b.levels

-- Of a block that passed its checks, the room ends cleared. The lent levels are the block's.
unfoldable pub searched_outcome : ℕ → Window → Book → Block → Lent → Result
searched_outcome w v book b l =
    record { answer = answered w v book b; lent = cleared (record { levels = written w v book b; choices = l.choices; row_a = l.row_a; row_b = l.row_b }) }

-- the number of the first check that refuses; 0 where none does
unfoldable pub refusal : ℕ → Window → Book → Block → Lent → ℕ
refusal w v book b l = search_refusal w v book b (trellis_room w v.length (length l.choices) (length l.row_a) (length l.row_b))

-- Refused by a check, nothing changes.
unfoldable pub banded_outcome : ℕ → Window → Book → Block → Lent → Result
banded_outcome w v book b l = cond (eqb (refusal w v book b l) 0) (searched_outcome w v book b l) (refused (refusal w v book b l) l)

-- The same with a byte for each choice, as document 01 has it: twice the room is asked, and what was lent ends cleared.
unfoldable pub wide_refusal : ℕ → Window → Book → Block → Lent → ℕ
wide_refusal w v book b l = search_refusal w v book b (wide_room w v.length (length l.choices) (length l.row_a) (length l.row_b))

unfoldable pub wide_outcome : ℕ → Window → Book → Block → Lent → Result
wide_outcome w v book b l = cond (eqb (wide_refusal w v book b l) 0) (searched_outcome w v book b l) (refused (wide_refusal w v book b l) l)
