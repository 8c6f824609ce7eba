use Rattle.trellis_row.proofs.Rows.{SoFar}
use Rattle.prices.specs.Contents.{contents}
use Prim.Native.Nat.{◌+◌, ◌-◌, ◌*◌}
use Rattle.half_bytes.specs.Packed.{unpacked}
use Rattle.trellis_sole.proofs.fill_sole.Given as given

abbrev pub invariant-loop-r : given.invariant-loop-r
invariant-loop-r l =
    let row = l.row in
    SoFar (contents row.book.now) row.place row.candidates.levels.now row.next.now row.span (2 * row.at) row.least row.most l.r l.initial.current l.current (unpacked l.initial.choices) (unpacked l.choices)

abbrev pub decreases-loop-r : given.decreases-loop-r
decreases-loop-r l = l.row.most + 1 - l.r
