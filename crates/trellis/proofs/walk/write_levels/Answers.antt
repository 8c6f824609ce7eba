use mathlib.Core.Path.{◌≡◌, refl, ap}
use Prim.Native.Nat.{ℕ, ◌+◌, ◌<◌, zero-le}
use native.Mathlib.Omega.{arith}
use Rattle.search_checks.proofs.Checked.{covered-few, position-few, window-few}
use Rattle.search_checks.proofs.Writing.{written-length, all-written, readable-now}
use Rattle.trellis.proofs.Walking.{walk-starts, walked_on, input-some, state-here, left-few, index_below, level-left}
use Rattle.trellis.proofs.Walking.{here-room}
use Rattle.trellis.proofs.walk.write_levels.Goals as goal

within : {i end n : ℕ} → i < end → end ≡ n → i < n
within h e = rw e at h

pub first_prev-prev-requires : goal.first_prev-prev-requires
first_prev-prev-requires c = covered-few c.requires.searched.checked

pub loop-i-init : goal.loop-i-init
loop-i-init c = ((λ w. walk-starts w c.first_prev-prev.ensures), (refl, (refl, zero-le)))

pub offer-offer-requires : goal.offer-offer-requires
offer-offer-requires c = let w = c.requires in
    let inv = c.loop-i.invariant in
    let h = within c.loop-i-test.true inv.1.1.0 in
    record { readable = readable-now w.searched _ (inv.0 w).prefix h; i_bound = position-few w.searched.checked _ h }

pub overflow_sub-after : goal.overflow_sub-after
overflow_sub-after c =
    let w = c.requires in
    let inv = c.loop-i.invariant in
    let h = within c.loop-i-test.true inv.1.1.0 in
    input-some w (inv.0 w) h c.offer-offer.ensures.offered c.nonzero-after.ensures

pub choice_at-requires : goal.choice_at-requires
choice_at-requires c = let w = c.requires in
    let inv = c.loop-i.invariant in
    let h = within c.loop-i-test.true inv.1.1.0 in
    let few = window-few w.searched.checked in
    let row = state-here w (inv.0 w) h c.offer-offer.ensures.offered c.nonzero-after.ensures c.least_count-least.ensures in
    record { i_bound = (omega arith, (left-few w (inv.0 w) h, here-room _ _ _ _ h w.room)); least_le_left = (row.0, (row.1, ((inv.0 w).bit, w.narrow))) }

pub offset_bounds-offered-choice_at : goal.offset_bounds-offered-choice_at
offset_bounds-offered-choice_at c =
    let w = c.requires in
    let inv = c.loop-i.invariant in
    let h = within c.loop-i-test.true inv.1.1.0 in
    let below = index_below w (inv.0 w) h c.offer-offer.ensures.offered c.offer-offer.ensures.usable.0 c.nonzero-after.ensures c.least_count-least.ensures c.choice_at.ensures in
    let five = c.offer-offer.ensures.usable.0.few in
    record { fits = omega arith }

pub bounds-offered-choice_at : goal.bounds-offered-choice_at
bounds-offered-choice_at c =
    let w = c.requires in
    let inv = c.loop-i.invariant in
    let h = within c.loop-i-test.true inv.1.1.0 in
    let below = index_below w (inv.0 w) h c.offer-offer.ensures.offered c.offer-offer.ensures.usable.0 c.nonzero-after.ensures c.least_count-least.ensures c.choice_at.ensures in
    let five = c.offer-offer.ensures.usable.0.few in
    omega arith

pub overflow_add-covered : goal.overflow_add-covered
overflow_add-covered c =
    let w = c.requires in
    let inv = c.loop-i.invariant in
    let h = within c.loop-i-test.true inv.1.1.0 in
    record { fits = omega (arith, position-few w.searched.checked _ h, inv.1.0) }

pub write_level-requires : goal.write_level-requires
write_level-requires c = let w = c.requires in
    let inv = c.loop-i.invariant in
    let h = within c.loop-i-test.true inv.1.1.0 in
    let R = readable-now w.searched _ (inv.0 w).prefix h in
    record { k_in_bounds = rw inv.1.0 R.scanned; k_in_bounds_2 = rw inv.1.0 R.levelled }

pub overflow_sub-left : goal.overflow_sub-left
overflow_sub-left c =
    let w = c.requires in
    let inv = c.loop-i.invariant in
    let h = within c.loop-i-test.true inv.1.1.0 in
    level-left w (inv.0 w) h c.offer-offer.ensures.offered c.offer-offer.ensures.usable.0 c.nonzero-after.ensures c.least_count-least.ensures c.choice_at.ensures c.nonzero-prev.ensures

pub overflow_step-i : goal.overflow_step-i
overflow_step-i c =
    let w = c.requires in
    let inv = c.loop-i.invariant in
    let h = within c.loop-i-test.true inv.1.1.0 in
    record { fits = omega (arith, position-few w.searched.checked _ h) }

pub loop-i-preserved : goal.loop-i-preserved
loop-i-preserved c =
    let inv = c.loop-i.invariant in
    let taken = c.loop-i-test.true in
    let offer = c.offer-offer.ensures in (
      λ w. walked_on w (inv.0 w) (within taken inv.1.1.0) offer.offered offer.usable.0 c.nonzero-after.ensures c.least_count-least.ensures c.choice_at.ensures c.nonzero-prev.ensures (ap (λ (n : ℕ). n + c.loop-i.i) inv.1.0) c.write_level.ensures,
      (inv.1.0, (inv.1.1.0, omega arith)),
    )

pub shape_of-levels : goal.shape_of-levels
shape_of-levels c = let w = c.requires in written-length w.searched _ (c.loop-i.invariant.0 w).prefix

pub returns : goal.returns
returns c =
    let inv = c.loop-i.invariant in
    λ w. all-written w.searched _ (inv.0 w).prefix (omega (arith, c.loop-i-test.false, inv.1.1.0))
