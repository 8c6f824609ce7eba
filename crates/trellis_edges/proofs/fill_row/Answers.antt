use Rattle.ac_context.proofs.Bounds.{covered-most}
use Rattle.trellis_edges.proofs.Tried.{elsewhere-again}
use Rattle.trellis_row.proofs.Rooms.{fits-kept}
use mathlib.Core.Path.{◌∙◌}
use native.Mathlib.Omega.{arith}
use Rattle.trellis_edges.proofs.fill_row.Goals as goal

pub overflow_add-row : goal.overflow_add-row
overflow_add-row c =
    let work = c.args.row.now.workable in
    record { fits = omega (arith, work.left, covered-most work.covers) }

pub clear-requires : goal.clear-requires
clear-requires c =
    let fits = c.requires in
    let some = c.args.row.now.some in
    (omega (arith, fits.costs, some), omega (arith, fits.halves, some))

pub all_edges-requires : goal.all_edges-requires
all_edges-requires c =
    let cleared = c.clear.ensures in
    record { each = c.distortions.ensures; fits = fits-kept c.requires cleared.current_len_unchanged cleared.elsewhere.size; cleared = cleared.cleared }

pub returns : goal.returns
returns c =
    let cleared = c.clear.ensures in
    let filled = c.all_edges.ensures in
    record { size = filled.size ∙ cleared.current_len_unchanged; elsewhere = elsewhere-again cleared.elsewhere filled.elsewhere; row_is = filled.row_is }
