use mathlib.Core.Path.{◌≡◌}
use Prim.Native.Nat.{◌≤◌}
use lib.ListN.{length}
use Rattle.prices.specs.Contents.{contents}
use Rattle.search_checks.specs.Checked.{Searched}
use Rattle.beam.specs.Held.{Reached}
use Rattle.beam.proofs.positions.take_positions.Given as given

abbrev pub invariant-loop-i : given.invariant-loop-i
invariant-loop-i l =
    (l.upto ≤ l.i) × ((length l.choices ≡ length l.initial.choices) × ((w : Searched (contents l.book) l.block.scan.now l.block.source.now l.block.inv_qm.now l.levels l.plan) → Reached l.plan.window (contents l.book) w.block l.i l.choices l.paths))
