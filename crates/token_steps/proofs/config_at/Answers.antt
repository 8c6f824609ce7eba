use Rattle.prices.specs.Book.{cluster_valid}
use Rattle.token_steps.proofs.Splits.{valid-at}
use Rattle.token_steps.proofs.config_at.Goals as goal

pub returns : goal.returns
unfolding cluster_valid
returns c =
    let e = rw c.from.ensures at c.config_of.ensures in
    record {
      split_exponent_is = e.split_exponent_value;
      msb_is = e.msb_in_token_value;
      lsb_is = e.lsb_in_token_value;
      valid = rw (e.split_exponent_value, e.msb_in_token_value, e.lsb_in_token_value) (valid-at c.requires.coded c.args.context c.requires.context_bound);
    }
