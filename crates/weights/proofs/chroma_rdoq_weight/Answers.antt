use borrow.Author.Rules.{rules}
use lib.Ieee.{of_bits}
use Rattle.weights.specs.Weights.{chroma_weight}
use Rattle.weights.proofs.chroma_rdoq_weight.Goals as goal

pub clamp-t-requires : goal.clamp-t-requires
unfolding of_bits
clamp-t-requires c = search rules

pub returns : goal.returns
unfolding chroma_weight of_bits
returns c = search rules
