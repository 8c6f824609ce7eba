use borrow.Author.Rules.{rules}
use Rattle.ac_context.specs.Contexts.{fine_zero_density_contexts_offset}
use Rattle.ac_context.proofs.fine_zero_density_contexts_offset.Goals as goal

pub returns : goal.returns
unfolding fine_zero_density_contexts_offset
returns c = search rules
