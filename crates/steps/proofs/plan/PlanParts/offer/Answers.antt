use lib.Dec.{ltb}
use Rattle.steps.proofs.Spots.{offered, filled-usable}
use mathlib.Core.Path.{refl}
use Rattle.steps.proofs.Zero.{handed-current, handed-back}
use Rattle.steps.proofs.plan.PlanParts.offer.Goals as goal

pub list_candidates-requires : goal.list_candidates-requires
list_candidates-requires c =
    let ideal = c.ideal_at-ideal.ensures in
    let level = c.level_at-level.ensures in
    record { is_ideal = rw ideal c.requires.readable.ideal; is_current = handed-current _ _ level c.requires.readable.level }

pub returns : goal.returns
returns c =
    let ideal = c.ideal_at-ideal.ensures in
    let level = c.level_at-level.ensures in
    let back = handed-back _ _ level c.requires.readable.level in
    let found = c.list_candidates.ensures in
    record { offered = λ b lists planned. offered b _ _ _ _ _ _ _ _ _ _ lists planned refl ideal back found; usable = (filled-usable _ _ (ltb c.args.i c.args.self.window.restoring) _ (rw ideal c.requires.readable.ideal) (handed-current _ _ level c.requires.readable.level) found, back) }
