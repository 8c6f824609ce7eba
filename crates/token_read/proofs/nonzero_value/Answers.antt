use Rattle.std.proofs.Common.{◌∙◌}
use Rattle.token_read.proofs.Refusals.{nonzero-byte}
use Rattle.token_read.proofs.nonzero_value.Goals as goal

pub returns : goal.returns
returns c = c.from.ensures ∙ nonzero-byte c.args.value
