use Rattle.greedy.proofs.Settling.{SoFar}
use Rattle.prices.specs.Contents.{contents}
use Rattle.greedy.proofs.pass.settle.Given as given

abbrev pub invariant-loop-i : given.invariant-loop-i
invariant-loop-i l =
    SoFar l.plan (contents l.book) l.block.scan.now l.block.source.now l.block.inv_qm.now l.initial.levels l.levels l.counts l.i
