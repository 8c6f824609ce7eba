use Rattle.steps.proofs.Spots.{placed}
use Rattle.steps.proofs.Zero.{current-back}
use Rattle.steps.proofs.plan.PlanParts.place.Goals as goal

pub returns : goal.returns
returns c =
    let rate = rw (current-back _ c.requires.1.1) at c.nonzero_rate.ensures in
    λ b planned ideal level. placed b _ _ _ _ _ _ planned ideal level (c.weight.ensures planned.far_is) rate
