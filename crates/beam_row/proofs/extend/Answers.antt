use Rattle.std.proofs.Common.{◌≡◌, ◌+◌, ℕ, get_or, pos, ap, ◌∙◌, arith}
use Rattle.beam_paths.proofs.Keeping.{extended_none, extended-next, extended-all}
use Rattle.beam_row.proofs.Trying.{path-extended, path-here, path-count, path-tail, sum_fits, sum-coded, pair-below}
use Rattle.steps.proofs.Listed.{pickable-level}
use Rattle.beam_row.proofs.extend.Goals as goal

pub distortion-distortion-requires : goal.distortion-distortion-requires
distortion-distortion-requires c = pickable-level c.args.candidates.now.pickable 0 (omega (arith, c.requires.one))

pub loop-j-init : goal.loop-j-init
loop-j-init c = (c.none-kept.ensures.count_value, λ q xs S W. rw (extended_none q (get_or q.candidates 0 (pos 0))) (c.none-kept.ensures.kept_is q xs))

pub overflow_add-paths : goal.overflow_add-paths
overflow_add-paths c = record { fits = omega (arith, sum_fits c.requires.takeable c.loop-j-test.true _ c.nonzero-nonzero.ensures) }

pub overflow_add-j : goal.overflow_add-j
overflow_add-j c = record { fits = omega (arith, pair-below c.requires.takeable c.loop-j-test.true _ c.nonzero-nonzero.ensures) }

pub offset_bounds-paths-j-in-loop-j : goal.offset_bounds-paths-j-in-loop-j
offset_bounds-paths-j-in-loop-j c = record { fits = omega (arith, pair-below c.requires.takeable c.loop-j-test.true _ c.nonzero-nonzero.ensures) }

pub bounds-paths-j-in-loop-j : goal.bounds-paths-j-in-loop-j
bounds-paths-j-in-loop-j c = pair-below c.requires.takeable c.loop-j-test.true _ c.nonzero-nonzero.ensures

pub extend_path-requires : goal.extend_path-requires
extend_path-requires c =
    let K = c.requires.takeable in
    record {
      t = (pickable-level c.args.candidates.now.pickable 0 (omega (arith, c.requires.one)), c.distortion-distortion.ensures);
      covered = (K.covers, K.offset);
      coefficient = λ h. sum-coded K c.loop-j-test.true _ c.nonzero-nonzero.ensures h;
      j_bound = omega (arith, c.loop-j-test.true, K.few);
    }

pub loop-j-preserved : goal.loop-j-preserved
loop-j-preserved c =
    let inv = c.loop-j.invariant in
    let here = c.loop-j-test.true in
    let nonzero = c.nonzero-nonzero.ensures in
    let push = c.push-kept.ensures in (
      push.count_value ∙ ap (λ (n : ℕ). n + 1) inv.0,
      λ q xs S W.
          extended-next _ W here
          (push.kept_is q xs _ _ (path-extended xs _ S c.args.candidates.now.pickable (path-here W here) (omega arith) nonzero (path-tail W here _ nonzero) (path-count W here _) (omega arith) c.extend_path.ensures) (inv.1 q xs S W)),
    )

pub returns : goal.returns
returns c =
    let inv = c.loop-j.invariant in
    let last : c.loop-j.j ≡ c.args.paths.count = omega arith in
    λ q xs S W. extended-all _ W last (inv.1 q xs S W)
