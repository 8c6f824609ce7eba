use Prim.Native.Nat.{ℕ, ◌-◌, ◌*◌, ◌/◌, ◌%◌, ◌^◌}
use native.Mathlib.Omega.{arith}
use mathlib.Core.Path.{◌≡◌, ap}
use Rattle.packing.proofs.Hybrid.{valid}
use Rattle.packing.proofs.Past.{Past, past, made, small}
use Rattle.packing.proofs.uint_encode_with_config.Lts
use Rattle.packing.proofs.uint_encode_with_config.Reads
use Rattle.packing.proofs.uint_encode_with_config.Tie
use Rattle.packing.proofs.uint_encode_with_config.Goals as goal

abbrev After-low_bits-high : Type 0
After-low_bits-high = Lts.After-low_bits Tie.the-claims Reads.Pre Reads.Post Tie.handed_clauses

abbrev After-top_bit-n : Type 0
After-top_bit-n = Lts.After-top_bit Tie.the-claims Reads.Pre Reads.Post Tie.handed_clauses

known : (c : After-top_bit-n) → Past c.args.config.split_exponent c.args.config.msb_in_token c.args.config.lsb_in_token c.args.value c.top_bit-n.result
known c =
    let start = c.before.before.before in
    past
    start.args.config.split_exponent
    start.args.config.msb_in_token
    start.args.config.lsb_in_token
    start.args.value
    c.top_bit-n.result
    start.requires.lsb_in_token_value
    start.requires.value_bound
    (rw (← c.power.ensures) c.if-value-power.false)
    c.top_bit-n.ensures

pub power-requires : goal.power-requires
power-requires c =
    let p = valid c.args.config.split_exponent c.args.config.msb_in_token c.args.config.lsb_in_token c.requires.lsb_in_token_value in
    omega (arith, p.small)

pub returns-then-value-power : goal.returns-then-value-power
returns-then-value-power c = small _ _ _ _ (rw (← c.power.ensures) c.if-value-power.true)

-- the high bits' part of the symbol
high : (c : After-low_bits-high) → c.low_bits-high.result * 2 ^ c.args.config.lsb_in_token ≡ c.args.value / 2 ^ (c.top_bit-n.result - c.args.config.msb_in_token) % 2 ^ c.args.config.msb_in_token * 2 ^ c.args.config.lsb_in_token
high c = ap (λ (p : ℕ). p * 2 ^ c.args.config.lsb_in_token) c.low_bits-high.ensures

pub overflow_sub-extra_bits : goal.overflow_sub-extra_bits
overflow_sub-extra_bits c = omega (arith, known c)

pub overflow_sub-extra_bits-2 : goal.overflow_sub-extra_bits-2
overflow_sub-extra_bits-2 c = omega (arith, known c)

pub overflow_sub-n : goal.overflow_sub-n
overflow_sub-n c = omega (arith, known c)

pub overflow_shr-value : goal.overflow_shr-value
overflow_shr-value c = omega (arith, known c)

pub low_bits-high-requires : goal.low_bits-high-requires
low_bits-high-requires c = omega (arith, known c)

pub power-requires-2 : goal.power-requires-2
power-requires-2 c = omega (arith, known c.before)

pub overflow_sub-n-2 : goal.overflow_sub-n-2
overflow_sub-n-2 c = omega (arith, known c.before.before)

pub overflow_add-m : goal.overflow_add-m
overflow_add-m c = omega (arith, known c.before.before)

pub shifted_up-requires : goal.shifted_up-requires
shifted_up-requires c = omega (arith, known c.before.before)

pub overflow_add-symbol : goal.overflow_add-symbol
overflow_add-symbol c = omega (arith, known c.before.before.before)

pub shifted_up-requires-2 : goal.shifted_up-requires-2
shifted_up-requires-2 c = omega (arith, known c.before.before.before, high c.before.before)

pub overflow_add-symbol-2 : goal.overflow_add-symbol-2
overflow_add-symbol-2 c = omega (arith, known c.before.before.before.before, high c.before.before.before)

pub low_bits-requires : goal.low_bits-requires
low_bits-requires c = omega (arith, known c.before.before.before.before)

pub overflow_add-symbol-3 : goal.overflow_add-symbol-3
overflow_add-symbol-3 c = omega (arith, known c.before.before.before.before.before, high c.before.before.before.before)

pub overflow_shr-value-2 : goal.overflow_shr-value-2
overflow_shr-value-2 c = omega (arith, known c.before.before.before.before.before)

pub low_bits-bits-requires : goal.low_bits-bits-requires
low_bits-bits-requires c = omega (arith, known c.before.before.before.before.before)

pub returns : goal.returns
returns c =
    let parts = c.before.before.before.before.before in
    let start = parts.before.before.before.before in
    let s = start.args.config.split_exponent in
    let m = start.args.config.msb_in_token in
    let l = start.args.config.lsb_in_token in
    made s m l start.args.value parts.top_bit-n.result _ _
    (rw (← parts.power.ensures) parts.if-value-power.false)
    parts.top_bit-n.ensures
    (omega (arith, c.power-2.ensures, c.shifted_up.ensures, c.shifted_up-2.ensures, c.low_bits.ensures, high parts))
    c.low_bits-bits.ensures
