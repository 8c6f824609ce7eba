use Rattle.store_passes.proofs.Passes.{seek-next, seek-here, seek-end}
use Rattle.store_passes.proofs.find.Goals as goal

pub returns-then-run_at-block : goal.returns-then-run_at-block
returns-then-run_at-block c = seek-here _ _ _ _ c.loop-i.invariant c.loop-i-test.true (rw c.run_at.ensures at c.if-run_at-block.true)

pub loop-i-preserved : goal.loop-i-preserved
loop-i-preserved c = seek-next _ _ _ _ c.loop-i.invariant c.loop-i-test.true (rw c.run_at.ensures at c.if-run_at-block.false)

pub returns : goal.returns
returns c = seek-end _ _ _ _ c.loop-i.invariant c.loop-i-test.false
