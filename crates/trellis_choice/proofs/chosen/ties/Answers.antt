use Rattle.steps.proofs.Zero.{zero-nz, other-nz}
use Rattle.trellis_choice.specs.Chosen.{is_tie}
use Rattle.trellis_choice.proofs.chosen.ties.Goals as goal
use borrow.Author.Tests.{eq-eqb}

pub returns-then-level-ne0 : goal.returns-then-level-ne0
unfolding is_tie
returns-then-level-ne0 c = rw (other-nz _ c.if-level-ne0.true)

pub returns-else-level-ne0 : goal.returns-else-level-ne0
unfolding is_tie
returns-else-level-ne0 c = rw (zero-nz _ c.ranges.level c.if-level-ne0.false, eq-eqb _ _ c.if-level-ne0.false)
