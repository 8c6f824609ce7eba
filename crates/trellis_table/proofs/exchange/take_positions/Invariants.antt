use Rattle.trellis_table.specs.Rows.{TailFor, Rowed, Kept}
use Rattle.prices.specs.Contents.{contents}
use Rattle.trellis_table.proofs.exchange.take_positions.Given as given

abbrev pub invariant-loop-i : given.invariant-loop-i
invariant-loop-i l =
    ((t : TailFor (contents l.book) l.block.scan.now l.block.source.now l.block.inv_qm.now l.levels l.plan l.past l.initial.first) → Rowed l.width l.plan.window (contents l.book) t.searched.block l.i l.first l.second l.choices l.step l.live) × Kept l.initial.first l.first l.initial.second l.second l.initial.choices l.choices
