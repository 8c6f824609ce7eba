use Rattle.scan.specs.Marks.{byte_at, Marks}
use Rattle.scan.proofs.mark.Given as given

abbrev pub invariant-loop-number : given.invariant-loop-number
invariant-loop-number l = Marks l.scan l.bad (byte_at l.marks) l.number-index
