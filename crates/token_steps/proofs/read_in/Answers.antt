use Rattle.block_tokens.specs.Reading.{pair}
use Rattle.token_steps.proofs.Splits.{splits-copy, read-copy}
use Rattle.token_steps.proofs.read_in.Goals as goal

pub uint_read_with_config-requires : goal.uint_read_with_config-requires
uint_read_with_config-requires c =
    record { lsb_in_token_value = c.config_at.ensures.valid; bits_value = splits-copy c.config_at.ensures (pair c.args.symbol c.args.bits) c.requires.bits_value }

pub returns : goal.returns
returns c = read-copy c.config_at.ensures (pair c.args.symbol c.args.bits) _ c.uint_read_with_config.ensures
