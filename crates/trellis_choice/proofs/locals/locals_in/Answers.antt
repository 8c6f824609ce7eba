use Rattle.std.proofs.Common.{◌≡◌, length, arith}
use Rattle.steps.proofs.Listed.{pickable-back}
use Rattle.trellis_choice.proofs.Noting.{partly_none, partly-noted, partly-all}
use Rattle.trellis_choice.proofs.locals.locals_in.Goals as goal

pub loop-j-init : goal.loop-j-init
loop-j-init c =
    let pre = c.requires in
    partly_none _ _ _ _ _ _ c.args.candidates.now.pickable.few pre.first_len.0 pre.first_len.1 c.none-locals.ensures

pub loop-j-preserved : goal.loop-j-preserved
loop-j-preserved c =
    let here = c.loop-j-test.true in
    let pair = c.local_pair-pair.ensures in
    partly-noted here c.args.candidates.now.pickable.few (pickable-back c.args.candidates.now.pickable _ here) pair.0 pair.1 c.note-locals.ensures c.loop-j.invariant

pub returns-clause-located : goal.returns-clause-located
returns-clause-located c =
    let last : c.loop-j.j ≡ length c.args.candidates.now.levels.now = omega arith in
    partly-all (rw last at c.loop-j.invariant)
