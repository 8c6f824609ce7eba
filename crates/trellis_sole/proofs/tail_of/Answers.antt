use Rattle.steps.proofs.Zero.{zero-nz, other-nz}
use Rattle.trellis_sole.specs.Sole.{sole_tail}
use Rattle.trellis_sole.proofs.tail_of.Goals as goal

pub returns-then-level-eq0 : goal.returns-then-level-eq0
unfolding sole_tail
returns-then-level-eq0 c = rw (zero-nz _ c.ranges.level c.if-level-eq0.true) c.tail_at.ensures

pub returns : goal.returns
unfolding sole_tail
returns c = rw (other-nz _ c.if-level-eq0.false) c.nonzero_tail.ensures
