use Rattle.std.proofs.Common.{refl, ◌∙◌, arith}
use Rattle.trellis_row.proofs.Rooms.{fits-kept}
use Rattle.trellis_edges.proofs.Tried.{elsewhere-all, elsewhere-again, tried-none, row_is}
use Rattle.trellis_edges.proofs.all_edges.Goals as goal

pub loop-n-init : goal.loop-n-init
loop-n-init c = record { size = refl; elsewhere = elsewhere-all _ _ _; tried = tried-none c.args.row.now.workable c.requires.cleared }

pub edges_from-requires-clause-fits : goal.edges_from-requires-clause-fits
edges_from-requires-clause-fits c = fits-kept c.requires.fits c.loop-n.invariant.size c.loop-n.invariant.elsewhere.size

pub loop-n-preserved : goal.loop-n-preserved
loop-n-preserved c =
    let inv = c.loop-n.invariant in
    let call = c.edges_from.ensures in
    record { size = call.current_len_unchanged ∙ inv.size; elsewhere = elsewhere-again inv.elsewhere call.elsewhere; tried = call.tried_after }

pub returns : goal.returns
returns c =
    let inv = c.loop-n.invariant in
    let row = c.args.row.now in
    record { size = inv.size; elsewhere = inv.elsewhere; row_is = row_is row.workable inv.tried (λ h. omega (arith, h)) row.some }

pub returns-2 : goal.returns-2
returns-2 c =
    let inv = c.loop-n.invariant in
    let call = c.edges_from.ensures in
    let row = c.args.row.now in
    record { size = call.current_len_unchanged ∙ inv.size; elsewhere = elsewhere-again inv.elsewhere call.elsewhere; row_is = row_is row.workable call.tried_after (λ h. omega (arith, h)) row.some }
