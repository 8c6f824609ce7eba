use mathlib.Core.Path.{refl, sym, ◌∙◌}
use Rattle.block.specs.Block.{covered}
use Rattle.small.specs.Small.{check32}
use Rattle.small.proofs.Results.{not-small, searched}
use Rattle.small.proofs.rdoq_small_block.Goals as goal

pub returns-then-not-is_small-clause-outcome : goal.returns-then-not-is_small-clause-outcome
unfolding check32 covered
returns-then-not-is_small-clause-outcome c = not-small _ _ _ _ (sym c.is_small.ensures ∙ c.if-not-is_small.true) refl

pub returns-clause-outcome : goal.returns-clause-outcome
unfolding check32 covered
returns-clause-outcome c = searched _ _ _ _ (sym c.is_small.ensures ∙ c.if-not-is_small.false) c.rdoq_block_in.ensures.outcome
