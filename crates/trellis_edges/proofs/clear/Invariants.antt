use Prim.Native.Nat.{◌*◌}
use Rattle.half_bytes.specs.Packed.{unpacked}
use Rattle.trellis_edges.proofs.Tried.{Clearing}
use Rattle.trellis_edges.proofs.clear.Given as given

abbrev pub invariant-loop-k : given.invariant-loop-k
invariant-loop-k l = Clearing (2 * l.at) (2 * l.n) (2 * l.k) l.initial.current l.current (unpacked l.initial.choices) (unpacked l.choices)
