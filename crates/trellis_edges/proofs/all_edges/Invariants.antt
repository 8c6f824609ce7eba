use Rattle.half_bytes.specs.Packed.{unpacked}
use Rattle.prices.specs.Contents.{contents}
use Rattle.trellis_edges.proofs.Tried.{Going}
use Prim.Native.Nat.{◌*◌}
use Rattle.trellis_edges.proofs.all_edges.Given as given

abbrev pub invariant-loop-n : given.invariant-loop-n
invariant-loop-n l =
    let row = l.row in
    Going (contents row.book.now) row.place row.candidates.levels.now row.next.now row.span row.least row.most (2 * row.at) l.n l.initial.current l.current (unpacked l.initial.choices) (unpacked l.choices)
