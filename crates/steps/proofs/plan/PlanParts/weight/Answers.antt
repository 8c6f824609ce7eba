use Prim.Native.Nat.{ℕ, min}
use mathlib.Core.Path.{◌≡◌, sym, ap, ◌∙◌}
use native.Mathlib.Omega.{arith}
use Rattle.weights.specs.Weights.{distortion_weight}
use lib.Ieee.{mul, binary32}
use Rattle.steps.proofs.plan.PlanParts.weight.Goals as goal

pub returns-then-i-self : goal.returns-then-i-self
returns-then-i-self c = λ _. c.position_weight.ensures

pub returns : goal.returns
returns c =
    λ far.
    let plan = c.args.self in
    let i = c.args.i in
    let held : min i plan.base ≡ min plan.base plan.base = omega (arith, c.if-i-self.false) in
    far ∙ ap (λ (n : ℕ). mul binary32 plan.channel_scale (distortion_weight n plan.base plan.distance)) (sym held)
