use Rattle.steps.proofs.Zero.{level-back}
use Rattle.beam_row.proofs.ways.try_way.Goals as goal

pub local_pair-pair-requires : goal.local_pair-pair-requires
local_pair-pair-requires c = let pre = c.requires in
    let back = level-back c.args.level pre.context_bound.1 in
    record { context_bound = pre.context_bound.0; t = rw back pre.context_bound.1; distortion_value = rw back pre.distortion_value }

pub returns : goal.returns
returns c =
    let pair = c.local_pair-pair.ensures in
    rw (c.consider.ensures, pair.0, pair.1, level-back c.args.level c.requires.context_bound.1)
