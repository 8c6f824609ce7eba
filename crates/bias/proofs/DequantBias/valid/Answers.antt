use borrow.Author.Rules.{rules}
use lib.Ieee.{of_bits}
use Rattle.bias.specs.Level.{valid_bias, numerator0145}
use Rattle.bias.proofs.DequantBias.valid.Goals as goal

pub returns-then-self-2 : goal.returns-then-self-2
unfolding valid_bias numerator0145 of_bits
returns-then-self-2 c = search rules

pub returns-else-self-2 : goal.returns-else-self-2
unfolding valid_bias numerator0145 of_bits
returns-else-self-2 c = search rules
