use Rattle.beam_paths.proofs.Keeping.{push-one, push-two, push-three}
use native.Mathlib.Omega.{arith}
use mathlib.Core.Path.{refl}
use Rattle.beam_paths.proofs.kept.Kept.push.Goals as goal

pub returns-then-self-eq0 : goal.returns-then-self-eq0
returns-then-self-eq0 c = record { count_value = refl; kept_is = λ q xs ys y Y w. push-one Y ys w c.if-self-eq0.true }

pub returns-then-self-eq1 : goal.returns-then-self-eq1
returns-then-self-eq1 c = record { count_value = refl; kept_is = λ q xs ys y Y w. push-two Y ys w c.if-self-eq1.true }

pub returns : goal.returns
returns c = record { count_value = refl; kept_is = λ q xs ys y Y w. push-three Y ys w (omega (arith, c.if-self-eq0.false, c.if-self-eq1.false, c.requires)) }
