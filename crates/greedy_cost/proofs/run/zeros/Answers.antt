use Rattle.std.proofs.Common.{◌≡◌, sym, refl, ◌∙◌, arith}
use Rattle.ac_context.proofs.Bounds.{covered-most}
use lib.Dec.{lit≤}
use lib.Ieee.{of_bits}
use Rattle.greedy_cost.proofs.Runs.{zeros-next, zeros-last}
use Rattle.greedy_cost.proofs.run.zeros.Goals as goal

pub loop-j-init : goal.loop-j-init
unfolding of_bits
loop-j-init c = (lit≤ tt, λ b w. refl)

pub overflow_add-plan : goal.overflow_add-plan
overflow_add-plan c = record { fits = omega (arith, c.requires.1, covered-most c.args.plan.coded.covers) }

pub token_bits-sum-requires : goal.token_bits-sum-requires
token_bits-sum-requires c =
    record {
      coefficient = record { some = lit≤ tt; left = omega (arith, c.requires.1, c.loop-j-test.true); coded = omega arith; flag = omega (arith, c.loop-j.invariant.0) };
      t = tt;
    }

pub loop-j-preserved : goal.loop-j-preserved
loop-j-preserved c =
    (lit≤ tt, λ b w. zeros-next _ b _ _ _ _ _ _ _ w c.loop-j-test.true refl (c.token_bits-sum.ensures b w) ∙ c.loop-j.invariant.1 b w)

pub returns : goal.returns
returns c =
    λ b w.
    let last : c.loop-j.j ≡ c.args.end = omega (arith, c.requires.0) in
    sym (zeros-last _ b _ _ _ _ last) ∙ c.loop-j.invariant.1 b w
