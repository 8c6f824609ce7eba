use Rattle.least_cost.proofs.Trial.{nz-le}
use Rattle.trellis_table.specs.Rows.{rise_at}
use Rattle.trellis_table.proofs.Steps.{rowable-of, lowest-is, last-is, rise-few, from_is, upto_is, room_of, space-of, sum_is, past-few, small_at, working, counts-narrow, counts_some, stepped}
use Rattle.steps.proofs.Listed.{listed-length}
use Rattle.steps.proofs.Zero.{handed-back, handed-current}
use Rattle.search_checks.proofs.Checked.{readable_of, base_short, position-few, window-few, remaining-few, level-current}
use Rattle.least_cost.specs.Position.{nz}
use native.Mathlib.Omega.{arith}
use Prim.Native.Nat.{◌-◌, ◌≤◌}
use mathlib.Core.Path.{sym, ◌∙◌, ap}
use Rattle.trellis_table.proofs.position.take_position.Goals as goal

pub offer-offer-requires : goal.offer-offer-requires
offer-offer-requires c = let pre = c.requires in
    record { readable = readable_of pre.next_for.searched _ pre.width_bound.1; i_bound = position-few pre.next_for.searched.checked _ pre.width_bound.1 }

pub place-place-requires : goal.place-place-requires
place-place-requires c =
    let pre = c.requires in
    let s = pre.next_for.searched in
    let offered = c.offer-offer.ensures.offered _ s.lists s.checked.planned in
    (base_short s.checked, (position-few s.checked _ pre.width_bound.1, handed-current _ _ offered.level_is (level-current s.checked _ pre.width_bound.1)))

pub span_of-span-requires : goal.span_of-span-requires
span_of-span-requires c = let pre = c.requires in (rw pre.next_for.after_is (remaining-few pre.next_for.searched.checked _), pre.width_bound.0)

pub overflow_sub-left : goal.overflow_sub-left
overflow_sub-left c = let pre = c.requires in omega (arith, pre.width_bound.1)

pub overflow_sub-left-2 : goal.overflow_sub-left-2
overflow_sub-left-2 c = let pre = c.requires in omega (arith, pre.width_bound.1)

pub last_count-requires : goal.last_count-requires
last_count-requires c =
    let pre = c.requires in
    let t = pre.next_for in
    let few : c.args.behind.after ≤ 65536 = rw t.after_is (remaining-few t.searched.checked _) in
    (few, (rw t.past_is (past-few (rowable-of t.searched pre.width_bound.0)), (omega (arith, window-few t.searched.checked), (pre.width_bound.0, (omega (arith, few, pre.width_bound.0, c.span_of-span.ensures.1.1), rw c.rise-rise.ensures (rise-few _ _ _))))))

pub overflow_mul-row : goal.overflow_mul-row
overflow_mul-row c = let pre = c.requires in record { fits = omega (arith, pre.width_bound.0) }

pub overflow_add-row : goal.overflow_add-row
overflow_add-row c = let pre = c.requires in record { fits = omega (arith, pre.width_bound.0) }

pub overflow_mul-row-2 : goal.overflow_mul-row-2
overflow_mul-row-2 c = let pre = c.requires in record { fits = small_at _ _ _ pre.width_bound.0 pre.width_bound.1 (window-few pre.next_for.searched.checked) }

pub slice_bounds-candidates-end : goal.slice_bounds-candidates-end
slice_bounds-candidates-end c = omega (arith, listed-length c.offer-offer.ensures.usable.0)

pub invariant_of-row : goal.invariant_of-row
invariant_of-row c =
    let pre = c.requires in
    let t = pre.next_for in
    let K = rowable-of t.searched pre.width_bound.0 in
    let h = pre.width_bound.1 in
    let after = t.after_is in
    let past = t.past_is in
    let offer = c.offer-offer.ensures in
    let span = c.span_of-span.ensures in
    let offered = offer.offered _ t.searched.lists K.checked.planned in
    let level = handed-back _ _ offered.level_is (level-current K.checked _ h) in
    let place = c.place-place.ensures _ K.checked.planned offered.ideal_is level in
    let lowest = lowest-is _ c.least_count.ensures past after in
    let risen = c.rise-rise.ensures ∙ ap (rise_at c.args.plan.window.restoring c.args.i) (level ∙ sym offered.level_is) in
    let last = last-is c.args.width c.args.i (c.args.plan.window.length - 1 - c.args.i) c.span_of-span.result.upto c.last_count.ensures past after risen in
    let from = from_is _ _ span.1.0 after in
    let upto = upto_is _ _ span.1.1 after in
    let rooms = pre.width_in_bounds in
    let small = counts-narrow K _ h _ _ _ offered place offer.usable.0 _ _ _ _ t.row_is rooms.0 span.0 from upto lowest last in
    record {
      workable = working K _ h _ _ _ offered place offer.usable.0 _ _ _ _ t.row_is rooms.0 span.0 from upto lowest last;
      some = counts_some K _ h _ _ _ offered place offer.usable.0 _ _ _ _ t.row_is rooms.0 span.0 from upto lowest last;
    }

pub fill_row-requires : goal.fill_row-requires
fill_row-requires c =
    let pre = c.requires in
    let t = pre.next_for in
    let K = rowable-of t.searched pre.width_bound.0 in
    let h = pre.width_bound.1 in
    let after = t.after_is in
    let past = t.past_is in
    let offer = c.offer-offer.ensures in
    let span = c.span_of-span.ensures in
    let offered = offer.offered _ t.searched.lists K.checked.planned in
    let level = handed-back _ _ offered.level_is (level-current K.checked _ h) in
    let place = c.place-place.ensures _ K.checked.planned offered.ideal_is level in
    let lowest = lowest-is _ c.least_count.ensures past after in
    let risen = c.rise-rise.ensures ∙ ap (rise_at c.args.plan.window.restoring c.args.i) (level ∙ sym offered.level_is) in
    let last = last-is c.args.width c.args.i (c.args.plan.window.length - 1 - c.args.i) c.span_of-span.result.upto c.last_count.ensures past after risen in
    let from = from_is _ _ span.1.0 after in
    let upto = upto_is _ _ span.1.1 after in
    let rooms = pre.width_in_bounds in
    let small = counts-narrow K _ h _ _ _ offered place offer.usable.0 _ _ _ _ t.row_is rooms.0 span.0 from upto lowest last in
    record { costs = room_of _ _ _ _ small rooms.1.0; halves = space-of _ _ _ _ _ small rooms.1.1 }

pub overflow_add-result : goal.overflow_add-result
overflow_add-result c =
    let few : c.args.behind.after ≤ 65536 = rw c.requires.next_for.after_is (remaining-few c.requires.next_for.searched.checked _) in
    let one : c.nonzero.result ≤ 1 = rw c.nonzero.ensures (nz-le _) in
    record { fits = omega arith }

pub returns : goal.returns
returns c =
    let pre = c.requires in
    λ t.
    let K = rowable-of t.searched pre.width_bound.0 in
    let h = pre.width_bound.1 in
    let after = t.after_is in
    let past = t.past_is in
    let offer = c.offer-offer.ensures in
    let span = c.span_of-span.ensures in
    let offered = offer.offered _ t.searched.lists K.checked.planned in
    let level = handed-back _ _ offered.level_is (level-current K.checked _ h) in
    let place = c.place-place.ensures _ K.checked.planned offered.ideal_is level in
    let lowest = lowest-is _ c.least_count.ensures past after in
    let risen = c.rise-rise.ensures ∙ ap (rise_at c.args.plan.window.restoring c.args.i) (level ∙ sym offered.level_is) in
    let last = last-is c.args.width c.args.i (c.args.plan.window.length - 1 - c.args.i) c.span_of-span.result.upto c.last_count.ensures past after risen in
    let from = from_is _ _ span.1.0 after in
    let upto = upto_is _ _ span.1.1 after in
    let rooms = pre.width_in_bounds in
    let filled = c.fill_row.ensures in
    stepped K _ h _ _ _ offered place offer.usable.0 _ _ _ _ t.row_is rooms.0 span.0 from upto lowest last _ _ _ _ _ filled.size filled.elsewhere filled.row_is
    (sum_is after (c.nonzero.ensures ∙ ap nz (level ∙ sym offered.level_is)))
