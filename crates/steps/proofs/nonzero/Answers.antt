use Rattle.steps.proofs.Zero.{nonzero-byte}
use Rattle.steps.proofs.nonzero.Goals as goal
use mathlib.Core.Path.{◌∙◌}

pub returns : goal.returns
returns c = c.from.ensures ∙ nonzero-byte _ c.ranges.level
