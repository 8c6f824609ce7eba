use Rattle.steps.proofs.Zero.{zero-nz, other-nz}
use borrow.Author.Tests.{eq-eqb, ne_eqb}
use Rattle.greedy.proofs.pass.stays.Goals as goal

pub returns-then-candidates-eq1 : goal.returns-then-candidates-eq1
returns-then-candidates-eq1 c =
    rw (eq-eqb _ _ c.if-candidates-eq1.true)

pub returns-then-current-eq0 : goal.returns-then-current-eq0
returns-then-current-eq0 c =
    rw (ne_eqb _ _ c.if-candidates-eq1.false, zero-nz _ c.ranges.current c.if-current-eq0.true)

pub returns : goal.returns
returns c =
    rw (ne_eqb _ _ c.if-candidates-eq1.false, other-nz _ c.if-current-eq0.false)
