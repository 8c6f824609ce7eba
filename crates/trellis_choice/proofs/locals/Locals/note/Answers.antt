use Rattle.steps.proofs.Zero.{zero-nz, other-nz}
use Rattle.trellis_choice.specs.Locals.{noted}
use Rattle.trellis_choice.proofs.locals.Locals.note.Goals as goal

pub returns-then-level-eq0 : goal.returns-then-level-eq0
unfolding noted
returns-then-level-eq0 c = rw (zero-nz _ c.ranges.level c.if-level-eq0.true)

pub returns : goal.returns
unfolding noted
returns c = rw (other-nz _ c.if-level-eq0.false) (cc)
