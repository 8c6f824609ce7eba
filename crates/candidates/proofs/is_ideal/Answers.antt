use borrow.Author.Rules.{rules}
use lib.Ieee.{neg, of_bits}
use Rattle.candidates.specs.Nearest.{is_ideal}
use Rattle.candidates.proofs.is_ideal.Goals as goal

pub returns-then-ideal : goal.returns-then-ideal
unfolding is_ideal of_bits neg
returns-then-ideal c = search rules

pub returns-else-ideal : goal.returns-else-ideal
unfolding is_ideal of_bits neg
returns-else-ideal c = search rules
