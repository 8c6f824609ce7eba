use lib.Ieee.{Float, add, binary32}
use mathlib.Core.Path.{◌≡◌}
use Rattle.steps.proofs.Zero.{level-back}
use borrow.Author.Tests.{eq-eqb, ne_eqb}
use Rattle.steps.specs.Place.{local_in}
use Rattle.steps.proofs.Place.local_pair.Goals as goal

summed : {d d' x x' : Float} → d ≡ d' → x ≡ x' → add binary32 d x ≡ add binary32 d' x'
summed p q = cc

pub returns-then-context-eq0 : goal.returns-then-context-eq0
unfolding local_in
returns-then-context-eq0 c =
    let here = c.requires.distortion_value in
    rw (eq-eqb _ _ c.if-context-eq0.true) (here, here)

pub returns : goal.returns
unfolding local_in
returns c =
    let rated = rw (level-back _ c.requires.t) at c.rated_pair-rated.ensures in
    rw (ne_eqb _ _ c.if-context-eq0.false) (summed c.requires.distortion_value rated.0, summed c.requires.distortion_value rated.1)
