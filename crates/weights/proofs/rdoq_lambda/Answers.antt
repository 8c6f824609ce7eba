use borrow.Author.Rules.{rules}
use lib.Ieee.{of_bits}
use Rattle.weights.specs.Weights.{lambda_of}
use Rattle.weights.proofs.rdoq_lambda.Goals as goal

pub clamp-requires : goal.clamp-requires
unfolding of_bits
clamp-requires c = search rules

pub returns : goal.returns
unfolding lambda_of of_bits
returns c = search rules
