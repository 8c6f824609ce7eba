use Rattle.std.proofs.Common.{◌≡◌, ◌∙◌, ap, length, arith, length-set}
use Rattle.steps.proofs.Arrays.{front-none, front-more}
use Rattle.steps.proofs.Listed.{pickable-back}
use Rattle.steps.specs.Place.{distortion_at}
use Rattle.steps.proofs.reading.distortions.Goals as goal

pub loop-j-init : goal.loop-j-init
loop-j-init c = (c.requires, front-none _ _ _)

pub loop-j-preserved : goal.loop-j-preserved
loop-j-preserved c =
    let inv = c.loop-j.invariant in
    let here = c.loop-j-test.true in
    (simp length-set inv.0, front-more (rw inv.0 (omega (arith, here, c.args.candidates.now.pickable.few))) inv.1 (c.distortion.ensures ∙ ap (distortion_at c.args.place) (pickable-back c.args.candidates.now.pickable _ here)))

pub returns : goal.returns
returns c =
    let last : c.loop-j.j ≡ length c.args.candidates.now.levels.now = omega arith in
    record { at = (rw last at c.loop-j.invariant.1).at }
