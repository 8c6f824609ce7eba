use mathlib.Core.Path.{sym}
use native.Mathlib.Omega.{arith}
use Rattle.store_record.proofs.Placed.{placed-none}
use Rattle.store_room.proofs.Packing.{moved_more}
use Rattle.store_room.proofs.move_down.Goals as goal

pub loop-i-init : goal.loop-i-init
loop-i-init c = sym (placed-none _ _)

pub loop-i-preserved : goal.loop-i-preserved
loop-i-preserved c = moved_more _ _ _ _ c.requires.0 (omega arith) c.loop-i.invariant
