use Rattle.steps.proofs.Zero.{level-back}
use Rattle.input_cost.proofs.Turns.{by-flag, local_by}
use Rattle.input_cost.proofs.sum.local_cost.Goals as goal

pub distortion-distortion-requires : goal.distortion-distortion-requires
distortion-distortion-requires c =
    rw (level-back _ c.requires.prev_bound.1) c.requires.prev_bound.1

pub local_pair-pair-requires : goal.local_pair-pair-requires
local_pair-pair-requires c =
    record { context_bound = c.context-context.ensures.1; t = rw (level-back _ c.requires.prev_bound.1) c.requires.prev_bound.1; distortion_value = c.distortion-distortion.ensures }

pub returns : goal.returns
returns c =
    let pair = c.local_pair-pair.ensures in
    local_by _ _ _ _ c.requires.prev_bound.0 (by-flag c.by_prev.ensures) pair.0 pair.1 c.context-context.ensures.0 (level-back _ c.requires.prev_bound.1)
