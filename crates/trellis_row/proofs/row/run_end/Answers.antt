use Rattle.std.proofs.Common.{arith}
use Rattle.trellis_row.proofs.Rows.{alike-context}
use Rattle.trellis_row.proofs.row.run_end.Goals as goal

pub returns : goal.returns
returns c =
    let alike = c.last_count_alike.ensures in
    (omega (arith, alike.from, c.requires.from_le_most), (omega arith, λ n low high. alike-context _ alike c.if-from-eq0.false n low (omega (arith, high))))
