use Rattle.store_passes.proofs.Passes.{Adding}
use Rattle.store_passes.proofs.live_but.Given as given

abbrev pub invariant-loop-i : given.invariant-loop-i
invariant-loop-i l =
    Adding l.block l.rec l.count l.i l.sum
