use Prim.Native.Nat.{◌≤◌}
use Rattle.search_lines.proofs.print_line.Given as given

abbrev pub invariant-loop-index : given.invariant-loop-index
invariant-loop-index l = l.end ≤ 65536
