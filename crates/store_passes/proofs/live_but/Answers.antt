use native.Mathlib.Omega.{arith}
use Rattle.store_passes.proofs.Passes.{add_small, add-next, add-not, add-end}
use Rattle.store_passes.proofs.live_but.Goals.{then-run-block, else-run-block}
use Rattle.store_passes.proofs.live_but.Goals as goal

pub overflow_add-sum : goal.overflow_add-sum
overflow_add-sum c =
    let small = add_small _ _ _ _ _ c.loop-i.invariant c.loop-i-test.true in
    rw c.run_at-run.ensures (record { fits = omega (arith, small, c.requires.count_bound) })

pub loop-i-preserved : goal.loop-i-preserved
loop-i-preserved c =
    elim c.if-run-block.branch [
      | then-run-block w ↦ rw (w.sum-is, c.run_at-run.ensures) (add-next _ _ _ _ _ c.loop-i.invariant c.loop-i-test.true (rw c.run_at-run.ensures at w.if-run-block.true))
      | else-run-block w ↦ rw w.sum-is (add-not _ _ _ _ _ c.loop-i.invariant c.loop-i-test.true (rw c.run_at-run.ensures at w.if-run-block.false))
    ]

pub returns : goal.returns
returns c = add-end _ _ _ _ _ c.loop-i.invariant c.loop-i-test.false
