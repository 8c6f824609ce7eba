use Rattle.block_input.specs.Held.{HeldIn}
use Rattle.level_search.specs.State.{Sound}
use Rattle.level_search.proofs.main.Given as given

abbrev pub invariant-loop : given.invariant-loop
invariant-loop l = HeldIn l.held × Sound l.state
