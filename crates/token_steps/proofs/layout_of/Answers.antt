use Rattle.std.proofs.Common.{refl, ap, ◌∙◌, arith}
use Rattle.ac_context.proofs.Domain.{sides-cover, sides-most, covered-log}
use Rattle.ac_context.specs.Contexts.{fine_non_zero_context, fine_zero_density_contexts_offset}
use Rattle.block_tokens.specs.Tokens.{covered_by, context_by, count_context}
use Rattle.token_steps.proofs.layout_of.Goals as goal

pub invariant_of-result : goal.invariant_of-result
unfolding covered_by context_by count_context
invariant_of-result c =
    let block = rw (c.from.ensures, c.from-2.ensures) at c.fine_block_context-block.ensures.0 in
    let offset = c.fine_zero_density_contexts_offset.ensures in
    let count = rw c.from-3.ensures at c.fine_non_zero_context-count_context.ensures in
    record {
      laid = record {
        covered_is = refl;
        most = sides-most _ _ c.requires.first_side c.requires.second_side;
        covers = covered-log _ _ (sides-cover _ _ c.requires.first_side c.requires.second_side) c.log2_covered.ensures;
        offset_is = offset.0 ∙ ap fine_zero_density_contexts_offset block;
        offset_most = omega (arith, offset.1);
        count_is = count.0 ∙ ap (fine_non_zero_context c.args.shape.predicted) block;
        count_most = omega (arith, count.1);
      };
    }
