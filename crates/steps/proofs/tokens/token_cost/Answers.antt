use Rattle.steps.proofs.Zero.{current-level, current-back}
use mathlib.Core.Path.{ap}
use lib.Ieee.{Float, mul, binary32}
use Rattle.steps.proofs.tokens.token_cost.Goals as goal

pub token_bits-requires : goal.token_bits-requires
token_bits-requires c =
    let h = c.requires.t in
    record { coefficient = c.requires.coefficient; t = rw (current-back _ h) (current-level c.args.level h) }

pub returns : goal.returns
returns c =
    let bits = rw (current-back _ c.requires.t) at c.token_bits.ensures in
    λ b planned. ap (λ (x : Float). mul binary32 c.args.plan.lambda x) (bits b planned)
