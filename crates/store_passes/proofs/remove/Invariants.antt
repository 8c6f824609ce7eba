use Rattle.store_passes.proofs.Passes.{Removing}
use Rattle.store_passes.proofs.remove.Given as given

abbrev pub invariant-loop-i : given.invariant-loop-i
invariant-loop-i l = Removing l.block l.initial.rec l.count l.i l.rec l.kept
