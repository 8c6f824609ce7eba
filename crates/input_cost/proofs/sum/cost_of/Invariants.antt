use Rattle.prices.specs.Contents.{contents}
use Rattle.search_checks.specs.Checked.{Searched}
use Rattle.input_cost.specs.Sum.{Summed}
use Rattle.input_cost.proofs.sum.cost_of.Given as given

abbrev pub invariant-loop-i : given.invariant-loop-i
invariant-loop-i l =
    (w : Searched (contents l.book) l.block.scan.now l.block.source.now l.block.inv_qm.now l.levels l.plan) → Summed l.plan.window (contents l.book) w.block l.i l.sum
