use Rattle.std.proofs.Common.{◌≡◌, ◌<◌, ◌+◌, ℕ, ap, ◌∙◌, arith, length-take}
use lib.Seq.{get_or-take}
use Rattle.beam_paths.specs.Path.{ways}
use Rattle.beam_paths.proofs.Keeping.{so-far-start, merged-next, merged-all}
use Rattle.beam_row.proofs.Growing.{counts-coded}
use Rattle.beam_row.proofs.Trying.{count-few}
use Rattle.beam_row.proofs.merge.Goals as goal

pub counts_named-counts-requires : goal.counts_named-counts-requires
counts_named-counts-requires c =
    let K = c.requires in
    record { count_bound = (K.few, K.three); by_index = λ j h. count-few K h }

pub loop-n-init : goal.loop-n-init
loop-n-init c =
    let none = c.none-kept.ensures in
    (λ _. none.count_value, λ q xs S W. rw (so-far-start q (ways xs q.candidates) c.counts_named-counts.result.length) (none.kept_is q xs))

pub merge_count-entry-requires-clause-k_bound : goal.merge_count-entry-requires-clause-k_bound
merge_count-entry-requires-clause-k_bound c =
    let names = c.counts_named-counts.ensures in
    let counts = c.counts_named-counts.result in
    let here : c.loop-n.n-index < counts.length = omega (arith, length-take {A = ℕ}) in
    rw (get_or-take counts.length counts.counts c.loop-n.n-index 0 here) (counts-coded _ c.requires names.result_value (omega (arith, names.length_bound.0, names.length_bound.1)) here)

pub keep-kept-requires : goal.keep-kept-requires
keep-kept-requires c = λ h. omega (arith, h, c.loop-n.invariant.0 h, length-take {A = ℕ})

pub loop-n-preserved : goal.loop-n-preserved
loop-n-preserved c =
    let inv = c.loop-n.invariant in
    let names = c.counts_named-counts.ensures in
    let counts = c.counts_named-counts.result in
    let here : c.loop-n.n-index < counts.length = omega (arith, length-take {A = ℕ}) in
    let read = get_or-take counts.length counts.counts c.loop-n.n-index 0 here in
    let keep = c.keep-kept.ensures in (
      λ h. keep.count_value h ∙ ap (λ (n : ℕ). n + 1) (inv.0 h),
      λ q xs S W.
          merged-next (ways xs q.candidates) _ (names.result_value xs W) (omega (arith, names.length_bound.0, names.length_bound.1)) here
          (keep.kept_is q xs _ _ (rw read at (c.merge_count-entry.ensures q xs S W)) (inv.1 q xs S W)),
    )

pub returns : goal.returns
returns c =
    let inv = c.loop-n.invariant in
    let names = c.counts_named-counts.ensures in
    let last : c.loop-n.n-index ≡ c.counts_named-counts.result.length = omega (arith, length-take {A = ℕ}, names.length_bound.0, names.length_bound.1) in
    λ q xs S W. merged-all (ways xs q.candidates) _ (names.result_value xs W) (omega (arith, names.length_bound.0, names.length_bound.1)) last (inv.1 q xs S W)
