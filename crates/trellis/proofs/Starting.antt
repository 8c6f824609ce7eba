-- What follows the window, as the first row of the search. Assumes nothing.
use mathlib.Core.Path.{◌≡◌, ◌∙◌}
use mathlib.Core.List.{List}
use Prim.Native.Nat.{◌≤◌}
use native.Mathlib.Omega.{arith}
use lib.ListN.{length, set, length-set}
use lib.Seq.{get_or-set_same, get_or-set_other}
use lib.Ieee.{Float, nan}
use Rattle.block.specs.Block.{Block}
use Rattle.prices.specs.Book.{Book}
use Rattle.search_checks.specs.Start.{Starts}
use Rattle.search_checks.specs.declared.start.Start.{Start}
use Rattle.trellis_table.specs.Rows.{TailRow}
use Rattle.weights.specs.declared.Window.{Window}

pub two-long : (row : List Float) (x y : Float) → length (set (set row 0 x) 1 y) ≡ length row
two-long row x y = length-set (set row 0 x) 1 y ∙ length-set row 0 x

pub tail-starts : (v : Window) (book : Book) (b : Block) (s : Start) (row : List Float) → 2 ≤ length row → Starts v book b s → TailRow v book b (set (set row 0 s.zero) 1 s.one)
tail-starts v book b s row h e =
    record {
      zero = get_or-set_other (set row 0 s.zero) 1 0 s.one nan (λ k. omega arith) ∙ get_or-set_same row 0 s.zero nan (omega arith) ∙ e.zero;
      one = get_or-set_same (set row 0 s.zero) 1 s.one nan (rw length-set (omega arith)) ∙ e.one;
    }
