use Rattle.block.specs.Block.{covered, context_of}
use Rattle.ac_context.proofs.Domain.{sides-cover, sides-most, covered-log}
use Rattle.ac_context.specs.Contexts.{fine_non_zero_context, fine_zero_density_contexts_offset}
use native.Mathlib.Omega.{arith}
use mathlib.Core.Path.{refl, ◌∙◌, ap}
use Rattle.weights.proofs.Lengths.{base-few}
use Rattle.steps.proofs.reading.plan_of.Goals as goal

pub overflow_mul-covered : goal.overflow_mul-covered
overflow_mul-covered c = let pre = c.requires.cx_value in record { fits = omega (arith, sides-most _ _ pre.0 pre.1) }

pub base_len-base-requires : goal.base_len-base-requires
base_len-base-requires c = let pre = c.requires.cx_value in sides-most _ _ pre.0 pre.1

pub position_weight-far_weight-requires : goal.position_weight-far_weight-requires
position_weight-far_weight-requires c = rw c.base_len-base.ensures (base-few _)

pub window_under-requires : goal.window_under-requires
window_under-requires c = let pre = c.requires.cx_value in sides-most _ _ pre.0 pre.1

pub invariant_of-result : goal.invariant_of-result
invariant_of-result c =
    record {
      coded = record { covers = covered-log _ _ (sides-cover _ _ c.requires.cx_value.0 c.requires.cx_value.1) c.log2_covered.ensures; offset = omega (arith, c.fine_zero_density_contexts_offset.ensures.1); count = omega (arith, c.fine_non_zero_context.ensures.1) };
    }

pub returns : goal.returns
unfolding covered context_of
returns c =
    let covers = covered-log _ _ (sides-cover _ _ c.requires.cx_value.0 c.requires.cx_value.1) c.log2_covered.ensures in
    let block = rw (c.from.ensures, c.from-2.ensures) at c.fine_block_context-context.ensures.0 in
    let offset = c.fine_zero_density_contexts_offset.ensures in
    let count = rw c.from-3.ensures at c.fine_non_zero_context.ensures in
    record {
      planned = λ levels. record {
        covered_is = refl;
        covers = covers;
        base_is = c.base_len-base.ensures;
        offset_is = offset.0 ∙ ap fine_zero_density_contexts_offset block;
        count_is = count.0 ∙ ap (fine_non_zero_context c.args.block.now.shape.predicted) block;
        scale_is = c.channel_scale-channel_scale.ensures;
        distance_is = refl;
        far_is = c.position_weight-far_weight.ensures;
        bias_is = refl;
        lambda_is = refl;
        restore_is = c.restore_rate.ensures;
        source_is = refl;
      };
      window_value = c.window_under.ensures;
    }
