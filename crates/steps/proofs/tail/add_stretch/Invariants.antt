use Rattle.std.proofs.Common.{◌≡◌, ◌≤◌, length}
use Rattle.block.specs.Block.{Block}
use Rattle.prices.specs.Contents.{contents}
use Rattle.steps.specs.Plan.{Planned}
use Rattle.steps.specs.Tail.{Shared, Standing, Continued}
use Rattle.steps.specs.declared.plan.Plan.{Plan}
use Rattle.steps.proofs.tail.add_stretch.Given as given

abbrev pub invariant-loop-k : given.invariant-loop-k
invariant-loop-k l = record {
  here : l.sum.k ≡ l.k;
  standing : Standing l.scan l.levels l.sum;
  fewer : l.sum.remaining ≤ l.fn.tail.remaining;
  begun : l.k ≡ l.fn.tail.k → l.sum.remaining ≡ l.fn.tail.remaining;
  continued : (b : Block) (plan : Plan) → l.scan ≡ b.scan → l.levels ≡ b.levels → Planned b plan → plan.lambda ≡ l.lambda → Shared plan l.book.map.now l.fn.tail.k l.fn.tail.remaining l.stretch
      → Continued (contents l.book) b (length l.scan) l.fn.tail l.sum;
}
