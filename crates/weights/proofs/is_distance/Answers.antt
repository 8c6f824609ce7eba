use borrow.Author.Rules.{rules}
use lib.Ieee.{of_bits}
use Rattle.weights.specs.Settings.{is_distance}
use Rattle.weights.proofs.is_distance.Goals as goal

pub returns : goal.returns
unfolding is_distance of_bits
returns c = search rules
