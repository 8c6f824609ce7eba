use Rattle.std.proofs.Common.{◌≡◌, refl, sym, ◌∙◌, length, arith}
use Rattle.trellis_row.proofs.Rooms.{fits-kept}
use Rattle.trellis_edges.proofs.Tried.{elsewhere-all, elsewhere-again, tried-next}
use Rattle.trellis_edges.proofs.edges_from.Goals as goal

pub loop-j-init : goal.loop-j-init
loop-j-init c = record { upto = omega arith; size = refl; elsewhere = elsewhere-all _ _ _; tried = c.requires.tried }

pub loop-j-preserved : goal.loop-j-preserved
loop-j-preserved c =
    let inv = c.loop-j.invariant in
    let call = c.try_edge.ensures in
    record { upto = omega (arith, c.loop-j-test.true); size = call.current_len_unchanged ∙ inv.size; elsewhere = elsewhere-again inv.elsewhere call.elsewhere; tried = call.tried_after }

pub returns-clause-tried_after : goal.returns-clause-tried_after
returns-clause-tried_after c =
    let inv = c.loop-j.invariant in
    let last : c.loop-j.j ≡ length c.args.row.now.candidates.levels.now = omega (arith, inv.upto) in
    tried-next c.args.row.now.workable (sym last) inv.tried

pub try_edge-requires-clause-fits : goal.try_edge-requires-clause-fits
try_edge-requires-clause-fits c = fits-kept c.requires.fits c.loop-j.invariant.size c.loop-j.invariant.elsewhere.size
