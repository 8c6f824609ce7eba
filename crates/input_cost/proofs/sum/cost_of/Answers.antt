use Rattle.std.proofs.Common.{◌≡◌, ◌-◌, suc, arith}
use Rattle.input_cost.proofs.Adding.{summed-whole}
use Rattle.input_cost.proofs.Turns.{within-now, remaining-small}
use Rattle.input_cost.proofs.sum.cost_of.Goals as goal

pub sum_past-sum-requires : goal.sum_past-sum-requires
sum_past-sum-requires c =
    let w = c.requires in
    within-now w

pub loop-i-init : goal.loop-i-init
loop-i-init c = λ w. c.sum_past-sum.ensures w.block w.lists.scan_is w.lists.levels_is w.checked.planned

pub add_position-sum-requires : goal.add_position-sum-requires
add_position-sum-requires c =
    let again : suc (c.loop-i.i - 1) ≡ c.loop-i.i = omega arith in
    record { searched = c.requires; i_lt_length = omega arith; summed = λ w. rw again (c.loop-i.invariant w) }

pub loop-i-preserved : goal.loop-i-preserved
loop-i-preserved c = c.add_position-sum.ensures

pub count_cost-counted-requires : goal.count_cost-counted-requires
count_cost-counted-requires c =
    let w = c.requires in
    remaining-small w _ (c.loop-i.invariant w).remaining_is

pub overflow_cast-result : goal.overflow_cast-result
overflow_cast-result c = record { fits = omega (arith, remaining-small c.requires _ (c.loop-i.invariant c.requires).remaining_is) }

pub returns : goal.returns
returns c =
    λ w.
    let first : c.loop-i.i ≡ 0 = omega arith in
    summed-whole _ _ w.block w.checked.passed.window.fits (rw first at (c.loop-i.invariant w)) (c.count_cost-counted.ensures w.block w.checked.planned)
