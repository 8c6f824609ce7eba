use borrow.Author.Rules.{rules}
use lib.Ieee.{of_bits}
use Rattle.weights.specs.Settings.{valid_settings}
use Rattle.weights.proofs.Settings.valid.Goals as goal

pub returns-then-between-3 : goal.returns-then-between-3
unfolding valid_settings of_bits
returns-then-between-3 c = search rules

pub returns-else-between-3 : goal.returns-else-between-3
unfolding valid_settings of_bits
returns-else-between-3 c = search rules
