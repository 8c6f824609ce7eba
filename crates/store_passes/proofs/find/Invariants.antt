use Rattle.store_passes.proofs.Passes.{Seeking}
use Rattle.store_passes.proofs.find.Given as given

abbrev pub invariant-loop-i : given.invariant-loop-i
invariant-loop-i l =
    Seeking l.block l.rec l.count l.i
