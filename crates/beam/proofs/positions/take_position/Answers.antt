use mathlib.Core.Path.{refl}
use native.Mathlib.Omega.{arith}
use Rattle.steps.proofs.Listed.{listed-length, pickable-of}
use Rattle.steps.proofs.Zero.{handed-current, current-back}
use Rattle.beam.proofs.Taking.{readable-now, spotted-now, takeable, stepped-here}
use Rattle.search_checks.proofs.Checked.{base_short, position-few, window-few}
use Rattle.beam.proofs.positions.take_position.Goals as goal

pub offer-offer-requires : goal.offer-offer-requires
offer-offer-requires c = let pre = c.requires in
    let w = pre.searched in
    let h = (pre.i_lt_length w).0 in
    record { readable = readable-now w _ h; i_bound = position-few w.checked _ h }

pub place-place-requires : goal.place-place-requires
place-place-requires c =
    let pre = c.requires in
    let w = pre.searched in
    let h = (pre.i_lt_length w).0 in
    let offer = c.offer-offer in
    (base_short w.checked, (position-few w.checked _ h, handed-current _ offer.result.level offer.ensures.usable.1 (readable-now w _ h).level))

pub take_step-step-requires : goal.take_step-step-requires
take_step-step-requires c =
    let pre = c.requires in
    let w = pre.searched in
    let h = (pre.i_lt_length w).0 in
    let offer = c.offer-offer in
    let back = current-back offer.result.level (rw offer.ensures.usable.1 (readable-now w _ h).level) in
    takeable w.checked _ h (spotted-now w offer.ensures.offered back c.place-place.ensures) (pre.i_lt_length w).1 (pickable-of offer.ensures.usable.0)

pub slice_bounds-candidates-end : goal.slice_bounds-candidates-end
slice_bounds-candidates-end c = omega (arith, listed-length c.offer-offer.ensures.usable.0)

pub invariant_of-candidates : goal.invariant_of-candidates
invariant_of-candidates c = record { pickable = pickable-of c.offer-offer.ensures.usable.0 }

pub overflow_mul-i : goal.overflow_mul-i
overflow_mul-i c =
    let pre = c.requires in
    let w = pre.searched in
    record { fits = omega (arith, (pre.i_lt_length w).0, window-few w.checked) }

pub store-requires : goal.store-requires
store-requires c =
    let pre = c.requires in
    let w = pre.searched in
    (omega (arith, (pre.i_lt_length w).0, window-few w.checked), pre.i_in_bounds)

pub returns : goal.returns
returns c =
    let pre = c.requires in
    let offer = c.offer-offer in
    λ w.
    let h = (pre.i_lt_length w).0 in
    let back = current-back offer.result.level (rw offer.ensures.usable.1 (readable-now w _ h).level) in
    stepped-here w.checked _ h (spotted-now w offer.ensures.offered back c.place-place.ensures) (pre.i_lt_length w).1 c.take_step-step.ensures refl c.store.ensures
