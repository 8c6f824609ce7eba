use Rattle.block_input.specs.Held.{HeldIn}
use Rattle.block_input.proofs.next_record.Given as given

abbrev pub invariant-loop : given.invariant-loop
invariant-loop l = HeldIn l.held
