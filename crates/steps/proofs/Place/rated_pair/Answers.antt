use lib.Ieee.{Float, mul, binary32}
use native.Mathlib.Nat.{add-zero}
use mathlib.Core.Path.{◌≡◌}
use Rattle.steps.proofs.Zero.{packed-value, level-back}
use native.Mathlib.Omega.{arith}
use Rattle.steps.specs.Place.{rated_in}
use Rattle.steps.proofs.Place.rated_pair.Goals as goal

rated : {r r' x x' : Float} → r ≡ r' → x ≡ x' → mul binary32 r x ≡ mul binary32 r' x'
rated p q = cc

pub token_bits_pair-bits-requires : goal.token_bits_pair-bits-requires
token_bits_pair-bits-requires c =
    let packed = rw (level-back _ c.requires.t) at c.pack_signed-value.ensures in
    record { context_bound = omega (arith, c.requires.context_bound); value_bound = rw packed (packed-value _ c.requires.t) }

pub returns : goal.returns
unfolding rated_in
returns c =
    let level = c.requires.t in
    let packed = rw (level-back _ level) at c.pack_signed-value.ensures in
    let rate = rw (level-back _ level) at c.rate-rate.ensures in
    let bits = rw packed at c.token_bits_pair-bits.ensures in
    rw (add-zero c.args.context) (rated rate bits.first_value, rated rate bits.second_value)
