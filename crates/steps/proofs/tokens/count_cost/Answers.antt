use Rattle.block.specs.Cost.{count_cost}
use Rattle.steps.proofs.tokens.count_cost.Goals as goal

pub returns : goal.returns
unfolding count_cost
returns c =
    λ b planned.
    let bits = c.token_bits.ensures in
    let lambda = planned.lambda_is in
    let context = planned.count_is in
    cc
