use Rattle.trellis_table.proofs.Totals.{Sofar}
use Rattle.trellis_table.specs.Rows.{FirstRow, problem_in}
use Rattle.prices.specs.Contents.{contents}
use Prim.Native.Nat.{◌+◌, ◌-◌}
use Rattle.trellis_table.proofs.count.best_count.Given as given

abbrev pub invariant-loop-n : given.invariant-loop-n
invariant-loop-n l =
    (t : FirstRow (contents l.book) l.plan l.live l.counts) → Sofar (problem_in t) l.n (l.counts.most + 1 - l.n) l.best
