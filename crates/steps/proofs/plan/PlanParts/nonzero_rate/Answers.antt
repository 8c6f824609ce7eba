use Rattle.steps.proofs.Zero.{zero-nz, other-nz}
use Rattle.steps.proofs.plan.PlanParts.nonzero_rate.Goals as goal

pub returns-then-level-eq0 : goal.returns-then-level-eq0
returns-then-level-eq0 c = rw (zero-nz _ c.ranges.level c.if-level-eq0.true)

pub returns-else-level-eq0 : goal.returns-else-level-eq0
returns-else-level-eq0 c = rw (other-nz _ c.if-level-eq0.false)
