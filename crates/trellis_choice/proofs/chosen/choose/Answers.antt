use mathlib.Core.Path.{refl}
use Rattle.trellis_choice.proofs.Choosing.{settled-zero, settled-nonzero}
use Rattle.trellis_choice.proofs.chosen.choose.Goals as goal

pub returns-then-zero_cost-cost : goal.returns-then-zero_cost-cost
returns-then-zero_cost-cost c = λ g known at X Z none. settled-zero known _ _ X Z none _ _ c.with_tail-zero_cost.ensures c.if-zero_cost-cost.true at

pub returns : goal.returns
returns c =
    λ g known at X Z none.
    settled-nonzero known _ _ X Z none _ _ c.with_tail-zero_cost.ensures c.if-zero_cost-cost.false
    (λ f. c.nonzero_choice.ensures.value g known.first known.costs X refl f)
    (λ f. c.nonzero_choice.ensures.pos_value g known.each known.first known.costs X refl f)
