use Rattle.std.proofs.Common.{◌≡◌, refl, sym, ap, ◌∙◌, arith}
use Rattle.steps.specs.Place.{context_at}
use Rattle.beam_row.proofs.Trying.{count-few, path_is, paths-more, paths-all}
use Rattle.beam_row.proofs.Reach.{both-none}
use Rattle.beam_row.proofs.ways.merge_count.Goals as goal

pub context-context-requires : goal.context-context-requires
context-context-requires c =
    let pre = c.requires in
    record { covered = pre.takeable.covers; coefficient = λ h. record { some = h; left = pre.k_bound; coded = pre.takeable.coded; flag = omega arith }; offset_bound = pre.takeable.offset }

pub loop-j-init : goal.loop-j-init
loop-j-init c = (refl, λ q xs S W. both-none _ _ _ _ _ c.infinity.ensures)

pub try_path-entry-requires : goal.try_path-entry-requires
try_path-entry-requires c =
    let context = c.context-context.ensures in
    record {
      context_value = (context.0 ∙ ap (context_at _) (sym c.loop-j.invariant.0), context.1);
      remaining_bound = (count-few c.requires.takeable c.loop-j-test.true, omega (arith, c.loop-j-test.true, c.requires.takeable.few));
    }

pub loop-j-preserved : goal.loop-j-preserved
loop-j-preserved c =
    let inv = c.loop-j.invariant in
    let here = c.loop-j-test.true in
    let call = c.try_path-entry.ensures in
    (call.remaining_value ∙ inv.0, λ q xs S W. paths-more W here (call.both_of q xs _ S (path_is W here) (inv.1 q xs S W)))

pub returns : goal.returns
returns c =
    let inv = c.loop-j.invariant in
    let last : c.loop-j.j ≡ c.args.paths.now.count = omega arith in
    λ q xs S W. paths-all W last inv.0 (inv.1 q xs S W)
