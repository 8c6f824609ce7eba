use Rattle.steps.proofs.Zero.{level-back}
use Rattle.beam_row.proofs.ways.extend_path.Goals as goal

pub local_pair-pair-requires : goal.local_pair-pair-requires
local_pair-pair-requires c =
    let level = c.requires.t in
    let back = level-back c.args.level level.0 in
    record { context_bound = c.context-context.ensures.1; t = rw back level.0; distortion_value = rw back level.1 }

pub returns : goal.returns
returns c =
    let pair = c.local_pair-pair.ensures in
    rw (pair.0, pair.1, c.context-context.ensures.0, level-back c.args.level c.requires.t.0)
