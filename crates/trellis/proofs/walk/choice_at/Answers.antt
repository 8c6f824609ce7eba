use mathlib.Core.Path.{◌≡◌, ◌∙◌}
use Prim.Native.Nat.{◌+◌, ◌-◌, ◌*◌}
use native.Mathlib.Omega.{arith}
use Rattle.block.specs.Checks.{choice_bytes}
use Rattle.half_bytes.proofs.Laws.{wide-few}
use Rattle.trellis.proofs.walk.choice_at.Goals as goal

pub returns : goal.returns
returns c =
    let a = c.args in
    let place : 2 * (choice_bytes a.width * a.i + (a.left - a.least)) + a.prev ≡ 2 * (choice_bytes a.width * a.i) + (2 * (a.left - a.least) + a.prev) = omega arith in
    λ few. c.from.ensures ∙ wide-few _ _ (rw place at c.half.ensures.0) few
