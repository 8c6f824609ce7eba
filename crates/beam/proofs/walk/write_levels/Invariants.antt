use mathlib.Core.Path.{◌≡◌}
use Prim.Native.Nat.{◌-◌, ◌≤◌}
use Rattle.beam.specs.Held.{Walkable}
use Rattle.beam.proofs.Walking.{WalkedTo}
use Rattle.beam.proofs.walk.write_levels.Given as given

abbrev pub invariant-loop-i : given.invariant-loop-i
invariant-loop-i l =
    ((w : Walkable l.block.scan.now l.block.source.now l.block.inv_qm.now l.initial.levels l.plan l.choices l.first l.count) → WalkedTo w l.i l.levels l.path l.prev) × ((l.covered ≡ l.plan.covered) × ((l.i-end ≡ l.plan.window.length) × (l.i ≤ l.i-end)))

abbrev pub decreases-loop-i : given.decreases-loop-i
decreases-loop-i l =
    l.i-end - l.i
