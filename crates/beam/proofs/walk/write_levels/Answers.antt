use mathlib.Core.Path.{◌≡◌, refl, ap}
use Prim.Native.Nat.{ℕ, ◌+◌, ◌<◌, zero-le}
use native.Mathlib.Omega.{arith}
use Rattle.search_checks.proofs.Checked.{covered-few, position-few, window-few}
use Rattle.search_checks.proofs.Writing.{written-length, all-written, readable-now}
use Rattle.beam.proofs.Walking.{walk-starts, path-few, index_below, walked_on}
use Rattle.beam.proofs.walk.write_levels.Goals as goal

within : {i end n : ℕ} → i < end → end ≡ n → i < n
within h e = rw e at h

pub first_prev-prev-requires : goal.first_prev-prev-requires
first_prev-prev-requires c = covered-few c.requires.searched.checked

pub loop-i-init : goal.loop-i-init
loop-i-init c = ((λ w. walk-starts w c.first_prev-prev.ensures), (refl, (refl, zero-le)))

pub offer-requires : goal.offer-requires
offer-requires c = let w = c.requires in
    let inv = c.loop-i.invariant in
    let h = within c.loop-i-test.true inv.1.1.0 in
    record { readable = readable-now w.searched _ (inv.0 w).prefix h; i_bound = position-few w.searched.checked _ h }

pub choice_at-choice-requires : goal.choice_at-choice-requires
choice_at-choice-requires c = let w = c.requires in
    let inv = c.loop-i.invariant in
    let h = within c.loop-i-test.true inv.1.1.0 in
    let few = window-few w.searched.checked in
    record { i_bound = (omega arith, omega (arith, w.room)); path_bound = (path-few w (inv.0 w) h, (inv.0 w).bit) }

pub offset_bounds-offered-choice : goal.offset_bounds-offered-choice
offset_bounds-offered-choice c =
    let w = c.requires in
    let inv = c.loop-i.invariant in
    let h = within c.loop-i-test.true inv.1.1.0 in
    let below = index_below w (inv.0 w) h c.offer.ensures.offered c.offer.ensures.usable.0 c.choice_at-choice.ensures in
    let five = c.offer.ensures.usable.0.few in
    record { fits = omega arith }

pub bounds-offered-choice : goal.bounds-offered-choice
bounds-offered-choice c =
    let w = c.requires in
    let inv = c.loop-i.invariant in
    let h = within c.loop-i-test.true inv.1.1.0 in
    let below = index_below w (inv.0 w) h c.offer.ensures.offered c.offer.ensures.usable.0 c.choice_at-choice.ensures in
    let five = c.offer.ensures.usable.0.few in
    omega arith

pub overflow_add-covered : goal.overflow_add-covered
overflow_add-covered c =
    let w = c.requires in
    let inv = c.loop-i.invariant in
    let h = within c.loop-i-test.true inv.1.1.0 in
    record { fits = omega (arith, position-few w.searched.checked _ h, inv.1.0) }

pub write_level-requires : goal.write_level-requires
write_level-requires c = let w = c.requires in
    let inv = c.loop-i.invariant in
    let h = within c.loop-i-test.true inv.1.1.0 in
    let R = readable-now w.searched _ (inv.0 w).prefix h in
    record { k_in_bounds = rw inv.1.0 R.scanned; k_in_bounds_2 = rw inv.1.0 R.levelled }

pub overflow_step-i : goal.overflow_step-i
overflow_step-i c =
    let w = c.requires in
    let inv = c.loop-i.invariant in
    let h = within c.loop-i-test.true inv.1.1.0 in
    record { fits = omega (arith, position-few w.searched.checked _ h) }

pub loop-i-preserved : goal.loop-i-preserved
loop-i-preserved c =
    let inv = c.loop-i.invariant in
    let taken = c.loop-i-test.true in
    let offer = c.offer.ensures in (
      λ w. walked_on w (inv.0 w) (within taken inv.1.1.0) offer.offered offer.usable.0 c.choice_at-choice.ensures c.nonzero-prev.ensures (ap (λ (n : ℕ). n + c.loop-i.i) inv.1.0) c.write_level.ensures,
      (inv.1.0, (inv.1.1.0, omega arith)),
    )

pub shape_of-levels : goal.shape_of-levels
shape_of-levels c = let w = c.requires in written-length w.searched _ (c.loop-i.invariant.0 w).prefix

pub returns : goal.returns
returns c =
    let inv = c.loop-i.invariant in
    λ w. all-written w.searched _ (inv.0 w).prefix (omega (arith, c.loop-i-test.false, inv.1.1.0))
