use Rattle.std.proofs.Common.{◌≡◌, arith}
use Rattle.trellis_row.proofs.Rooms.{fits-kept}
use Rattle.trellis_row.proofs.Rows.{ran-none, ran-more}
use Rattle.trellis_row.proofs.row.fill_run.Goals as goal

pub loop-r-init : goal.loop-r-init
loop-r-init c = ran-none _ _ _ _ _ _ _ _ _ _ _ _ c.requires.from_within.1.0

pub row_state-requires-clause-fits : goal.row_state-requires-clause-fits
row_state-requires-clause-fits c = fits-kept c.requires.fits c.loop-r.invariant.size c.loop-r.invariant.elsewhere.size

pub loop-r-preserved : goal.loop-r-preserved
loop-r-preserved c =
    let call = c.row_state.ensures in
    ran-more c.requires.from_within.0 c.loop-r-test.true c.loop-r.invariant call.current_len_unchanged call.elsewhere call.begun

pub returns-2-clause-begun : goal.returns-2-clause-begun
returns-2-clause-begun c =
    let last : c.loop-r.r ≡ c.args.upto = omega arith in
    let call = c.row_state.ensures in
    rw last at (ran-more c.requires.from_within.0 c.loop-r-test.true c.loop-r.invariant call.current_len_unchanged call.elsewhere call.begun).more
