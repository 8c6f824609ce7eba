use Rattle.block_tokens.specs.Reading.{pair}
use Rattle.token_steps.proofs.Splits.{value-copy}
use Rattle.token_steps.proofs.value_in.Goals as goal

pub returns : goal.returns
returns c = value-copy c.config_at.ensures (pair c.args.symbol c.args.bits) _ c.uint_decode_with_config.ensures
