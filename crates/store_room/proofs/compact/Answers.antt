use Prim.Native.Nat.{◌+◌, ◌*◌, ◌≤◌}
use native.Mathlib.Omega.{arith}
use lib.ListN.{length, get_or}
use Rattle.store_room.proofs.Packing.{pack-start, turn, pack-next}
use Rattle.store_room.proofs.compact.Goals as goal

pub loop-i-init : goal.loop-i-init
loop-i-init c = pack-start _ _ _ c.requires.0 c.requires.1.1

pub move_down-requires : goal.move_down-requires
move_down-requires c = rw c.run_at-run.ensures (turn _ _ _ _ _ _ _ c.loop-i.invariant c.requires.0 c.requires.1.0 c.loop-i-test.true)

pub overflow_add-top : goal.overflow_add-top
overflow_add-top c =
    let at = c.loop-i in
    let t = turn _ _ _ _ at.room at.rec at.top at.invariant c.requires.0 c.requires.1.0 c.loop-i-test.true in
    let h : at.top + get_or at.rec (3 * at.i + 3) 0 ≤ length at.room = omega (arith, t.0, t.1) in
    rw c.run_at-run.ensures (record { fits = omega (arith, h) })

pub loop-i-preserved : goal.loop-i-preserved
loop-i-preserved c = rw c.run_at-run.ensures (pack-next _ _ _ _ _ _ _ c.loop-i.invariant c.requires.0 c.requires.1.0 c.loop-i-test.true (rw c.run_at-run.ensures at c.move_down.ensures) (rw c.run_at-run.ensures at c.write_run.ensures))
