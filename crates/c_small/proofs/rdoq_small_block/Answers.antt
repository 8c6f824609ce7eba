use mathlib.Core.Path.{refl, sym, ◌∙◌}
use Rattle.std.proofs.Common.{rules}
use Rattle.block.specs.Block.{covered}
use Rattle.rooms.proofs.Given.{given_back}
use Rattle.small.specs.Small.{check32}
use Rattle.c_small.proofs.Results.{not-small, no-search, searched}
use Rattle.c_small.proofs.rdoq_small_block.Goals as goal

pub returns-then-not-is_small : goal.returns-then-not-is_small
unfolding check32 covered
returns-then-not-is_small c = rw c.number.ensures (not-small _ _ _ _ _ _ (sym c.is_small.ensures ∙ c.if-not-is_small.true))

pub returns-in-Err : goal.returns-in-Err
unfolding check32 covered
returns-in-Err c = rw c.number-in-Err.ensures (no-search _ _ _ _ _ _ (sym c.is_small.ensures ∙ c.if-not-is_small.false) c.in-Err.ensures)

pub returns : goal.returns
unfolding check32 covered
returns c =
    let found = rw c.new-view.ensures at c.rdoq_small_block-answer.ensures.outcome in
    searched _ _ _ _ _ _ (sym c.is_small.ensures ∙ c.if-not-is_small.false) c.in-Ok.ensures found
    (c.tell_answer.ensures.value, (c.tell_answer.ensures.cost_after, c.tell_answer.ensures.count_after))
    refl
    (given_back _ c.rdoq_small_block-answer.new.room (search rules) (search rules) (search rules))
