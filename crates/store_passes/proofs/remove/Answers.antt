use mathlib.Core.Path.{refl}
use native.Mathlib.Omega.{arith}
use Rattle.store_passes.proofs.Passes.{remove-start, kept-few, remove-next}
use Rattle.store_passes.proofs.remove.Goals as goal

pub loop-i-init : goal.loop-i-init
loop-i-init c = remove-start _ _ _ c.requires.0

pub keep_run-kept-requires : goal.keep_run-kept-requires
keep_run-kept-requires c =
    let few = kept-few _ _ _ _ _ _ c.loop-i.invariant c.requires.0 c.requires.1 in
    (omega (arith, c.loop-i.auto.rec, c.requires.0, c.requires.1, c.loop-i-test.true), omega (arith, c.requires.1, c.loop-i-test.true))

pub loop-i-preserved : goal.loop-i-preserved
loop-i-preserved c =
    let kept = c.keep_run-kept.ensures in
    remove-next _ _ _ _ _ _ c.loop-i.invariant c.requires.0 c.requires.1 c.loop-i-test.true refl refl refl (rw c.run_at-run.ensures at kept.value) (rw c.run_at-run.ensures at kept.rec_after)
