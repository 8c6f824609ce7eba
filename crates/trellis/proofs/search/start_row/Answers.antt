use native.Mathlib.Omega.{arith}
use lib.ListN.{length-set}
use Rattle.trellis.proofs.Starting.{two-long, tail-starts}
use Rattle.trellis.proofs.search.start_row.Goals as goal

pub bounds-row-0 : goal.bounds-row-0
bounds-row-0 c = omega (arith, c.requires)

pub bounds-row-1 : goal.bounds-row-1
bounds-row-1 c = rw length-set (omega (arith, c.requires))

pub returns : goal.returns
returns c = record { row_len_unchanged = two-long c.args.row.now c.args.start.zero c.args.start.one; tail_row = λ v book b e. tail-starts v book b c.args.start c.args.row.now c.requires e }
