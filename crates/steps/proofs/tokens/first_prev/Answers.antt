use mathlib.Core.Path.{◌≡◌, refl, ◌∙◌}
use mathlib.Core.Bool.{Bool, true, false, cond}
use lib.Dec.{leb}
use Prim.Native.Nat.{◌*◌, ◌/◌}
use mir.Val.{bool_byte}
use Rattle.steps.proofs.tokens.first_prev.Goals as goal

byte : (t : Bool) → bool_byte t ≡ cond t 1 0
byte true = refl
byte false = refl

pub returns : goal.returns
returns c = c.from.ensures ∙ byte (leb c.args.count (64 * c.args.covered / 16))
