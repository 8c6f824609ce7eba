use borrow.Author.Rules.{rules}
use Rattle.ac_context.specs.Contexts.{fine_non_zero_context}
use Rattle.ac_context.proofs.fine_non_zero_context.Goals as goal

pub returns : goal.returns
unfolding fine_non_zero_context
returns c = search rules
