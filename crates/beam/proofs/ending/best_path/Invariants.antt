use mathlib.Core.Path.{◌≡◌}
use Prim.Native.Nat.{◌-◌, ◌≤◌}
use Rattle.beam_paths.specs.Held.{PathsFor}
use Rattle.block.specs.Block.{Block}
use Rattle.prices.specs.Contents.{contents}
use Rattle.steps.specs.Plan.{Planned}
use Rattle.beam.specs.Beam.{problem}
use Rattle.beam.specs.Held.{paths}
use Rattle.beam.proofs.Ends.{Sofar}
use Rattle.beam.proofs.ending.best_path.Given as given

abbrev pub invariant-loop-j : given.invariant-loop-j
invariant-loop-j l =
    (l.j-end ≡ l.kept.count) × ((l.j ≤ l.j-end) × ((b : Block) → Planned b l.plan → PathsFor (paths l.plan.window (contents l.book) b 0) l.kept → Sofar (problem l.plan.window (contents l.book) b) (paths l.plan.window (contents l.book) b 0) l.j l.best))

abbrev pub decreases-loop-j : given.decreases-loop-j
decreases-loop-j l =
    l.j-end - l.j
