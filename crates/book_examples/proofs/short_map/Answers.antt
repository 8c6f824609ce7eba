use lib.ListN.{length-take}
use native.Mathlib.Omega.{arith}
use Rattle.book_examples.proofs.short_map.Goals as goal

pub slice_bounds-check_filled-end : goal.slice_bounds-check_filled-end
slice_bounds-check_filled-end c = simp length-take (omega arith)
