use Rattle.greedy_cost.proofs.Costing.{bits-zero, bits-nonzero}
use Rattle.greedy_cost.specs.Cost.{bits_of}
use Rattle.ac_context.proofs.Bounds.{covered-most}
use Rattle.steps.proofs.Zero.{level-back, zero-nz, other-nz}
use lib.Ieee.{of_bits}
use native.Mathlib.Omega.{arith}
use borrow.Author.Tests.{eq-eqb}
use Rattle.greedy_cost.proofs.cost.bits.Goals as goal

pub returns-then-remaining-eq0 : goal.returns-then-remaining-eq0
unfolding bits_of of_bits
returns-then-remaining-eq0 c =
    λ b w. rw (eq-eqb _ _ c.if-remaining-eq0.true)

pub overflow_add-plan : goal.overflow_add-plan
overflow_add-plan c =
    record { fits = omega (arith, c.requires.i_bound.0, covered-most c.args.plan.coded.covers) }

pub token_bits-token-requires : goal.token_bits-token-requires
token_bits-token-requires c =
    record { coefficient = record { some = omega (arith, c.if-remaining-eq0.false); left = c.requires.i_bound.0; coded = omega arith; flag = omega (arith, c.requires.i_bound.1) }; t = rw (level-back _ c.requires.t) c.requires.t }

pub returns-then-level-eq0 : goal.returns-then-level-eq0
returns-then-level-eq0 c =
    λ b w.
    bits-zero _ b _ _ _ _ _ _ _ _ w (level-back _ c.requires.t) c.if-remaining-eq0.false (c.token_bits-token.ensures b w) (zero-nz _ c.ranges.level c.if-level-eq0.true)

pub returns : goal.returns
returns c =
    λ b w.
    bits-nonzero _ b _ _ _ _ _ _ _ _ w (level-back _ c.requires.t) c.if-remaining-eq0.false (c.token_bits-token.ensures b w) (other-nz _ c.if-level-eq0.false)
