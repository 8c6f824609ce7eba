use lib.Dec.{leb→le}
use Rattle.steps.proofs.Zero.{level-back, packed-value}
use Rattle.block.specs.Cost.{token_price}
use native.Mathlib.Omega.{arith}
use Rattle.steps.proofs.tokens.token_bits.Goals as goal

pub pack_signed-value-requires : goal.pack_signed-value-requires
pack_signed-value-requires c =
    rw (level-back _ c.requires.t) (leb→le _ 32768 c.requires.t)

pub token_bits-requires : goal.token_bits-requires
token_bits-requires c =
    let pre = c.requires in
    let value = rw (level-back _ pre.t) at c.pack_signed-value.ensures in
    record { context_bound = omega (arith, c.args.plan.coded.offset, c.zero_density_context.ensures.1); value_bound = rw value (packed-value _ pre.t) }

pub returns : goal.returns
unfolding token_price
returns c =
    λ b planned.
    let pre = c.requires in
    let value = rw (level-back _ pre.t) at c.pack_signed-value.ensures in
    let bits = c.token_bits.ensures in
    let context = c.zero_density_context.ensures.0 in
    let offset = planned.offset_is in
    let covers = planned.covered_is in
    cc
