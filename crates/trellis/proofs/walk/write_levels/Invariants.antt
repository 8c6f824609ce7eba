use mathlib.Core.Path.{◌≡◌}
use Prim.Native.Nat.{◌-◌, ◌≤◌}
use Rattle.trellis.specs.Walk.{Walkable}
use Rattle.trellis.proofs.Walking.{WalkedTo}
use Rattle.trellis.proofs.walk.write_levels.Given as given

abbrev pub invariant-loop-i : given.invariant-loop-i
invariant-loop-i l =
    ((w : Walkable l.width l.block.scan.now l.block.source.now l.block.inv_qm.now l.initial.levels l.plan l.found.past l.found.nonzeros l.choices l.found.count) → WalkedTo w l.i l.levels l.left l.prev l.after) × ((l.covered ≡ l.plan.covered) × ((l.i-end ≡ l.plan.window.length) × (l.i ≤ l.i-end)))

abbrev pub decreases-loop-i : given.decreases-loop-i
decreases-loop-i l =
    l.i-end - l.i
