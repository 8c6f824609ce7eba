use mathlib.Core.Path.{ap, ◌∙◌}
use Prim.Native.Nat.{ℕ, ◌+◌, ◌-◌, ◌<◌}
use native.Mathlib.Omega.{arith}
use Rattle.block.specs.Cost.{first_prev}
use Rattle.least_cost.specs.Position.{nz}
use Rattle.least_cost.proofs.Trial.{nz-le}
use Rattle.steps.proofs.Zero.{handed-back}
use Rattle.input_cost.proofs.Adding.{prev-first, prev-past}
use Rattle.input_cost.proofs.Turns.{first-few, input-is}
use Rattle.input_cost.proofs.sum.prev_at.Goals as goal

pub first_prev-requires : goal.first_prev-requires
first_prev-requires c = c.requires.covered_bound.0

pub returns-then-i-eq0 : goal.returns-then-i-eq0
unfolding first_prev
returns-then-i-eq0 c =
    record { value = λ b es el ec. rw (← ec) c.first_prev.ensures ∙ prev-first b _ _ c.if-i-eq0.true; upper_bound = first-few c.args.remaining c.args.covered c.first_prev.ensures }

pub level_at-requires : goal.level_at-requires
level_at-requires c = let pre = c.requires in
    record { k_in_bounds = omega (arith, pre.covered_bound.1, c.if-i-eq0.false); k_in_bounds_2 = pre.whole.within _ (omega (arith, pre.covered_bound.1, c.if-i-eq0.false)) }

pub returns : goal.returns
returns c =
    let some : 0 < c.args.i = omega (arith, c.if-i-eq0.false) in
    let back = handed-back _ _ c.level_at.ensures (c.requires.whole.level _ (omega arith) (omega (arith, c.requires.covered_bound.1))) in
    record { value = λ b es el ec. c.nonzero.ensures ∙ ap nz (input-is b _ _ es el (ap (λ (n : ℕ). n + c.args.i - 1) ec) back) ∙ prev-past b _ _ some; upper_bound = rw c.nonzero.ensures (nz-le _) }
