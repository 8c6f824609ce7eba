use mathlib.Core.Path.{sym}
use native.Mathlib.Omega.{arith}
use Rattle.store_record.proofs.Placed.{placed-none, copied_more}
use Rattle.store_room.proofs.copy_run.Goals as goal

pub loop-i-init : goal.loop-i-init
loop-i-init c = sym (placed-none _ _)

pub loop-i-preserved : goal.loop-i-preserved
loop-i-preserved c =
    copied_more c.args.at c.args.start c.loop-i.i c.args.from.now _ (omega arith) (omega arith) c.loop-i.invariant
