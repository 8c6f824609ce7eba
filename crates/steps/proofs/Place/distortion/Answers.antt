use Rattle.steps.proofs.Zero.{level-back}
use lib.Ieee.{Float, mul, sub, binary32}
use mathlib.Core.Path.{ap}
use Rattle.block.specs.Cost.{distortion_of}
use Rattle.steps.specs.Place.{distortion_at}
use Rattle.steps.proofs.Place.distortion.Goals as goal

pub returns : goal.returns
unfolding distortion_at distortion_of
returns c =
    let x = c.args.self in
    ap (λ (y : Float). mul binary32 x.weight (mul binary32 (sub binary32 x.ideal y) (sub binary32 x.ideal y)))
    (rw (level-back _ c.requires) at c.level.ensures)
