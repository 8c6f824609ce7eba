use borrow.Author.Rules.{rules}
use Rattle.ac_context.specs.Contexts.{block_context}
use Rattle.ac_context.proofs.block_context.Goals as goal

pub returns : goal.returns
unfolding block_context
returns c = (cc, search rules)
