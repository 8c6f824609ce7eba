use Prim.Native.Nat.{◌-◌, ◌≤◌}
use mathlib.Core.Path.{◌≡◌}
use lib.ListN.{length}
use Rattle.block.specs.Block.{Block}
use Rattle.prices.specs.Contents.{contents}
use Rattle.steps.specs.Plan.{Planned}
use Rattle.steps.specs.Tail.{Standing, Continued}
use Rattle.steps.proofs.tail.add_tokens.Given as given

abbrev pub invariant-loop-tail : given.invariant-loop-tail
invariant-loop-tail l =
    Standing l.scan l.levels l.tail
    × ((l.initial.tail.k ≤ l.tail.k)
    × ((b : Block) → l.scan ≡ b.scan → l.levels ≡ b.levels → Planned b l.plan → Continued (contents l.book) b (length l.scan) l.initial.tail l.tail))

abbrev pub decreases-loop-tail : given.decreases-loop-tail
decreases-loop-tail l = length l.scan - l.tail.k
