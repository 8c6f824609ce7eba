use Rattle.greedy.proofs.Passing.{windowed-of, readable-at, later-is, others-is, others-few, later-few, inputs, chosen-stays, chosen-least, handed-level, passed_on, passed-level}
use Rattle.least_cost.specs.Position.{nz}
use Rattle.steps.proofs.Listed.{listed-length, pickable-of}
use Rattle.steps.proofs.Zero.{handed-back, handed-current}
use Prim.Native.Nat.{◌<◌, ◌+◌, ◌*◌}
use mathlib.Core.Path.{ap, ◌∙◌}
use native.Mathlib.Omega.{arith}
use Rattle.greedy.proofs.pass.choice.Goals as goal

pub offer-offer-requires : goal.offer-offer-requires
offer-offer-requires c =
    let pre = c.requires in
    let fitting = pre.fitting in
    let ok = pre.ready in
    let here = pre.i_lt_length in
    let counts = pre.later_value in
    record { readable = readable-at fitting ok _ here (omega arith); i_bound = omega (arith, fitting.window, fitting.most) }

pub returns-then-stays : goal.returns-then-stays
returns-then-stays c =
    let pre = c.requires in
    let fitting = pre.fitting in
    let ok = pre.ready in
    let here = pre.i_lt_length in
    let counts = pre.later_value in
    let reads = readable-at fitting ok _ here (omega arith) in
    let level = c.offer-offer.ensures.usable.1 in
    let back = handed-back _ c.offer-offer.result.level level reads.level in
    record {
      value = λ b lists w.
          let offered = c.offer-offer.ensures.offered b lists w in
          let current = back ∙ inputs c.args.i lists w in
          chosen-stays _ offered c.offer-offer.ensures.usable.0 current (later-is lists.scan_is lists.levels_is w _ counts.0) c.stays.ensures c.if-stays.true;
      t = handed-level _ c.offer-offer.result.level level reads.level;
    }

pub place-place-requires : goal.place-place-requires
place-place-requires c =
    let pre = c.requires in
    let fitting = pre.fitting in
    let ok = pre.ready in
    let here = pre.i_lt_length in
    let counts = pre.later_value in
    let reads = readable-at fitting ok _ here (omega arith) in
    (fitting.base, (omega (arith, fitting.window, fitting.most), handed-current _ c.offer-offer.result.level c.offer-offer.ensures.usable.1 reads.level))

pub front-front-requires : goal.front-front-requires
front-front-requires c =
    let pre = c.requires in
    let fitting = pre.fitting in
    let ok = pre.ready in
    let here = pre.i_lt_length in
    let counts = pre.later_value in
    windowed-of fitting ok _ here (omega arith)

pub run_bits-run-requires : goal.run_bits-run-requires
run_bits-run-requires c =
    let pre = c.requires in
    let fitting = pre.fitting in
    let ok = pre.ready in
    let here = pre.i_lt_length in
    let counts = pre.later_value in
    let inside : c.args.plan.covered + c.args.i < 64 * c.args.plan.covered = omega (arith, fitting.window) in
    record { windowed = windowed-of fitting ok _ here (omega arith); i_bound = inside }

pub overflow_sub-around : goal.overflow_sub-around
overflow_sub-around c =
    let pre = c.requires in
    let fitting = pre.fitting in
    let ok = pre.ready in
    let here = pre.i_lt_length in
    let counts = pre.later_value in
    let inside : c.args.plan.covered + c.args.i < 64 * c.args.plan.covered = omega (arith, fitting.window) in
    let reads = readable-at fitting ok _ here (omega arith) in
    let level = c.offer-offer.ensures.usable.1 in
    let back = handed-back _ c.offer-offer.result.level level reads.level in
    (others-few _ _ _ _ inside counts.1 (c.nonzero.ensures ∙ ap nz back)).0

pub slice_bounds-candidates-end : goal.slice_bounds-candidates-end
slice_bounds-candidates-end c = omega (arith, listed-length c.offer-offer.ensures.usable.0)

pub invariant_of-candidates : goal.invariant_of-candidates
invariant_of-candidates c = record { pickable = pickable-of c.offer-offer.ensures.usable.0 }

pub cheapest-requires : goal.cheapest-requires
cheapest-requires c =
    let pre = c.requires in
    let fitting = pre.fitting in
    let ok = pre.ready in
    let here = pre.i_lt_length in
    let counts = pre.later_value in
    let inside : c.args.plan.covered + c.args.i < 64 * c.args.plan.covered = omega (arith, fitting.window) in
    let reads = readable-at fitting ok _ here (omega arith) in
    let level = c.offer-offer.ensures.usable.1 in
    let back = handed-back _ c.offer-offer.result.level level reads.level in
    record { i_bound = (later-few _ _ _ _ inside counts.0, ((others-few _ _ _ _ inside counts.1 (c.nonzero.ensures ∙ ap nz back)).1, c.front-front.ensures.upper_bound)); t = handed-level _ c.offer-offer.result.level level reads.level }

pub returns : goal.returns
returns c =
    let pre = c.requires in
    let fitting = pre.fitting in
    let ok = pre.ready in
    let here = pre.i_lt_length in
    let counts = pre.later_value in
    let inside : c.args.plan.covered + c.args.i < 64 * c.args.plan.covered = omega (arith, fitting.window) in
    let reads = readable-at fitting ok _ here (omega arith) in
    let level = c.offer-offer.ensures.usable.1 in
    let back = handed-back _ c.offer-offer.result.level level reads.level in
    record {
      value = λ b lists w.
          let offered = c.offer-offer.ensures.offered b lists w in
          let usable = c.offer-offer.ensures.usable.0 in
          let current = back ∙ inputs c.args.i lists w in
          let later = later-is lists.scan_is lists.levels_is w _ counts.0 in
          let others = others-is lists.scan_is lists.levels_is w _ inside counts.0 counts.1 (c.nonzero.ensures ∙ ap nz back) in
          let place = c.place-place.ensures b w offered.ideal_is current in
          passed_on _ _ c.cheapest.ensures.level_kept
          (chosen-least _ offered usable current later c.stays.ensures c.if-stays.false others (c.front-front.ensures.value b lists.scan_is lists.levels_is w.covered_is)
          (c.run_bits-run.ensures b lists.scan_is lists.levels_is w later) (c.cheapest.ensures.value b w place));
      t = passed-level c.cheapest.result c.cheapest.ensures.level_kept;
    }
