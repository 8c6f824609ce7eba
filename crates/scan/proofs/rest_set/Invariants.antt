use Rattle.scan.proofs.Bits.{SetTo}
use Rattle.scan.proofs.rest_set.Given as given

abbrev pub invariant-loop-i : given.invariant-loop-i
invariant-loop-i l = SetTo l.words l.i
