use Prim.Native.Nat.{◌≤◌}
use Rattle.block_search.proofs.search_all.Given as given

abbrev pub invariant-loop-search : given.invariant-loop-search
invariant-loop-search l = l.used ≤ 65536
