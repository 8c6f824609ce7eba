use lib.ListN.{length-take}
use native.Mathlib.Omega.{arith}
use Rattle.context_sheet.proofs.end_line.Goals as goal

pub slice_bounds-print_line-end : goal.slice_bounds-print_line-end
slice_bounds-print_line-end c = simp length-take (omega arith)

pub overflow_add-result : goal.overflow_add-result
overflow_add-result c =
    let start = c.before.before.before.before.before.before.before.before in
    let room = c.make_room-at.ensures in
    let short = c.print_line-printed.ensures.1.1 in
    record { fits = omega (arith, start.well_formed.1.1.0.0) }

pub returns : goal.returns
returns c =
    let room = c.make_room-at.ensures in
    let short = c.print_line-printed.ensures.1.1 in
    omega arith
