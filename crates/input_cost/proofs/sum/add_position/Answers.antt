use Prim.Native.Nat.{◌≤◌}
use native.Mathlib.Omega.{arith}
use Rattle.least_cost.proofs.Trial.{nz-le}
use Rattle.search_checks.proofs.Checked.{base_short, covered-few, position-few}
use Rattle.steps.proofs.Zero.{handed-back, handed-current}
use Rattle.input_cost.proofs.Adding.{summed-more}
use Rattle.input_cost.proofs.Turns.{within-now, remaining-small, readable-now, level-has, level-now, ideal-now, counted-more, covers-now, coded_now, local-now}
use Rattle.input_cost.proofs.sum.add_position.Goals as goal

pub level_at-level-requires : goal.level_at-level-requires
level_at-level-requires c = let pre = c.requires in
    let r = readable-now pre.searched _ pre.i_lt_length in
    record { k_in_bounds = r.scanned; k_in_bounds_2 = r.levelled }

pub ideal_at-ideal-requires : goal.ideal_at-ideal-requires
ideal_at-ideal-requires c = let pre = c.requires in
    let r = readable-now pre.searched _ pre.i_lt_length in
    record { k_in_bounds = r.scanned; k_in_bounds_2 = r.sourced; k_in_bounds_3 = r.inverted }

pub place-place-requires : goal.place-place-requires
place-place-requires c =
    let pre = c.requires in
    let r = readable-now pre.searched _ pre.i_lt_length in
    (base_short pre.searched.checked, (position-few pre.searched.checked _ pre.i_lt_length, handed-current _ _ c.level_at-level.ensures r.level))

pub overflow_add-remaining : goal.overflow_add-remaining
overflow_add-remaining c =
    let pre = c.requires in
    let one : c.nonzero.result ≤ 1 = rw c.nonzero.ensures (nz-le _) in
    let few = remaining-small pre.searched _ (pre.summed pre.searched).remaining_is in
    record { fits = omega (arith, one, few) }

pub prev_at-prev-requires : goal.prev_at-prev-requires
prev_at-prev-requires c = let pre = c.requires in
    let w = within-now pre.searched in
    record { whole = w.whole; covered_bound = (covered-few pre.searched.checked, omega (arith, w.fits, pre.i_lt_length)) }

pub local_cost-local-requires : goal.local_cost-local-requires
local_cost-local-requires c = let pre = c.requires in
    let w = pre.searched in
    let r = readable-now w _ pre.i_lt_length in
    let level = handed-back _ _ c.level_at-level.ensures r.level in
    let place = c.place-place.ensures w.block w.checked.planned (ideal-now w _ pre.i_lt_length c.ideal_at-ideal.ensures) (level-now w _ pre.i_lt_length level) in
    let counted = counted-more w _ pre.i_lt_length (pre.summed w).remaining_is c.nonzero.ensures (level-now w _ pre.i_lt_length level) in
    record { covered = covers-now w _ pre.i_lt_length place; coefficient = coded_now w _ pre.i_lt_length place counted; prev_bound = (c.prev_at-prev.ensures.upper_bound, rw level (level-has w _ pre.i_lt_length)) }

pub returns : goal.returns
returns c =
    λ w.
    let pre = c.requires in
    let r = readable-now w _ pre.i_lt_length in
    let prev = c.prev_at-prev.ensures in
    let level = handed-back _ _ c.level_at-level.ensures r.level in
    let place = c.place-place.ensures w.block w.checked.planned (ideal-now w _ pre.i_lt_length c.ideal_at-ideal.ensures) (level-now w _ pre.i_lt_length level) in
    let counted = counted-more w _ pre.i_lt_length (pre.summed w).remaining_is c.nonzero.ensures (level-now w _ pre.i_lt_length level) in
    summed-more _ _ w.block w.checked.passed.window.fits _ pre.i_lt_length counted (prev.value w.block w.lists.scan_is w.lists.levels_is w.checked.planned.covered_is)
    (local-now w _ pre.i_lt_length place _ _ prev.upper_bound c.local_cost-local.ensures (level-now w _ pre.i_lt_length level)) (pre.summed w).cost_is
