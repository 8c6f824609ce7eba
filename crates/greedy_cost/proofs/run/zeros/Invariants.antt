use Rattle.std.proofs.Common.{◌≡◌, ◌≤◌, ◌-◌}
use Rattle.block.specs.Block.{Block}
use Rattle.prices.specs.Contents.{contents}
use Rattle.steps.specs.Plan.{Planned}
use Rattle.greedy_cost.specs.Run.{none, zeros_from}
use Rattle.greedy_cost.proofs.run.zeros.Given as given

abbrev pub invariant-loop-j : given.invariant-loop-j
invariant-loop-j l =
    let book = contents l.book in
    (l.prev ≤ 1) × ((b : Block) → Planned b l.plan → zeros_from book b (l.end - l.j) l.j l.prev l.sum ≡ zeros_from book b (l.end - l.start) l.start 1 none)
