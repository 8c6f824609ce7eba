use lib.Ieee.{mul}
use Rattle.block.specs.Block.{ideal_at}
use borrow.Author.Rules.{rules}
use Rattle.steps.proofs.ideal_at.Goals as goal

pub returns : goal.returns
unfolding ideal_at mul
returns c = search rules
