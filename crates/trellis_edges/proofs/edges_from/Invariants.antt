use Rattle.half_bytes.specs.Packed.{unpacked}
use Rattle.prices.specs.Contents.{contents}
use Rattle.trellis_edges.proofs.Tried.{Trying}
use Prim.Native.Nat.{◌*◌}
use Rattle.trellis_edges.proofs.edges_from.Given as given

abbrev pub invariant-loop-j : given.invariant-loop-j
invariant-loop-j l =
    let row = l.row in
    Trying (contents row.book.now) row.place row.candidates.levels.now row.next.now row.span row.least row.most (2 * row.at) l.n l.j l.initial.current l.current (unpacked l.initial.choices) (unpacked l.choices)
