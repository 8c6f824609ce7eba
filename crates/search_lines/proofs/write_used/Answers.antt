use lib.ListN.{length-take}
use native.Mathlib.Omega.{arith}
use Rattle.search_lines.proofs.write_used.Goals as goal

pub slice_bounds-write_all-end : goal.slice_bounds-write_all-end
slice_bounds-write_all-end c = simp length-take (omega arith)
