use Prim.Native.Nat.{◌-◌}
use mathlib.Core.Path.{◌≡◌, refl, sym}
use mathlib.Core.List.{[]}
use native.Mathlib.Omega.{arith}
use Rattle.scan.proofs.Through.{put-none}
use Rattle.token_read.proofs.Restoring.{put_on}
use Rattle.token_read.proofs.clear_from.Goals as goal

pub loop-k-init : goal.loop-k-init
loop-k-init c =
    let none : c.args.from - c.args.from ≡ 0 = omega arith in
    (omega arith, rw none (sym (put-none c.args.scan.now [] c.args.from c.args.levels.now)))

pub loop-k-preserved : goal.loop-k-preserved
loop-k-preserved c =
    let at = c.loop-k in
    (omega (arith, at.auto.k, c.loop-k-test.true), put_on _ [] _ _ _ _ _ _ at.auto.k at.invariant.1 c.write_level.ensures refl)
