use Rattle.token_steps.proofs.Splits.{split-copy}
use Rattle.token_steps.proofs.split_under.Goals as goal

pub returns : goal.returns
returns c = split-copy c.config_at.ensures _ _ c.uint_encode_with_config.ensures
