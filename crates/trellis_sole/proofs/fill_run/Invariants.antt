use Rattle.trellis_row.proofs.Rows.{Ran}
use Rattle.trellis_sole.specs.Sole.{SoleReady}
use Rattle.prices.specs.Contents.{contents}
use Prim.Native.Nat.{◌*◌}
use Rattle.half_bytes.specs.Packed.{unpacked}
use Rattle.trellis_sole.proofs.fill_run.Given as given

abbrev pub invariant-loop-r : given.invariant-loop-r
invariant-loop-r l =
    let row = l.row in
    Ran (λ n. SoleReady (contents row.book.now) row.place row.next.now row.span l.sole.level l.sole.distortion l.sole.token n)
    (contents row.book.now) row.place row.candidates.levels.now row.next.now row.span (2 * row.at) row.least l.from l.upto l.r l.initial.current l.current (unpacked l.initial.choices) (unpacked l.choices)
