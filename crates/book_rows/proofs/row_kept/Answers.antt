use Rattle.std.proofs.Common.{ℕ, ◌+◌, ◌-◌, ◌*◌, ◌^◌, ◌≤◌, ◌≡◌, refl, sym, ap, ◌∙◌, subst, true, false, arith}
use mathlib.Core.Path.{subst⁻¹}
use native.Mathlib.Nat.{le_of_eq}
use lib.ListN.{get_or}
use lib.IntN.{pos}
use lib.Ieee.{fin, lt, of_bits}
use lib.Pow.{pow_mono}
use Rattle.prices.specs.Book.{at}
use Rattle.prices.specs.Checks.{each, symbol_price, row_kept}
use Rattle.prices.proofs.Each.{each-cut}
use Rattle.prices.proofs.Costs.{zero-sum-cost}
use Rattle.book_rows.specs.Row.{above, line_kept, octave_kept, priced_octaves}
use Rattle.book_rows.proofs.Octave.{kept_at, base, config-is, head-all, octave-step, last-octave, octave-room, octaves-most, octaves-least, octaves-few, first-base, next-base}
use Rattle.book_rows.proofs.row_kept.Goals as goal

pub power-small-requires : goal.power-small-requires
power-small-requires c =
    let sizes = config-is c.args.configs.now c.args.symbols.now c.args.ready.now c.args.cluster (get_or c.args.configs.now (3 * c.args.cluster) 0) c.config_of-config.result.msb_in_token c.config_of-config.result.lsb_in_token refl (sym c.config_of-config.ensures.msb_in_token_value) (sym c.config_of-config.ensures.lsb_in_token_value) c.requires.valid in
    omega (arith, sizes, c.config_of-config.ensures)

pub line_kept-requires : goal.line_kept-requires
unfolding of_bits
line_kept-requires c =
    let sizes = config-is c.args.configs.now c.args.symbols.now c.args.ready.now c.args.cluster (get_or c.args.configs.now (3 * c.args.cluster) 0) c.config_of-config.result.msb_in_token c.config_of-config.result.lsb_in_token refl (sym c.config_of-config.ensures.msb_in_token_value) (sym c.config_of-config.ensures.lsb_in_token_value) c.requires.valid in
    let small : 2 ^ (get_or c.args.configs.now (3 * c.args.cluster) 0) ≤ 2 ^ 6 = pow_mono sizes.small in
    let headed : c.power-small.result ≡ 2 ^ (get_or c.args.configs.now (3 * c.args.cluster) 0) = c.power-small.ensures ∙ ap (λ (n : ℕ). 2 ^ n) c.config_of-config.ensures.split_exponent_value in
    record { count_bound = omega (arith, headed, small); symbols_in_bounds = omega (arith, headed, small, c.requires.priced); ready_in_bounds = omega (arith, headed, small, c.requires.kept); by_index = λ i h. zero-sum-cost _ (c.requires.prices i (omega (arith, headed, small))) }

pub returns-then-not-line_kept : goal.returns-then-not-line_kept
unfolding row_kept of_bits
returns-then-not-line_kept c =
    let sizes = config-is c.args.configs.now c.args.symbols.now c.args.ready.now c.args.cluster (get_or c.args.configs.now (3 * c.args.cluster) 0) c.config_of-config.result.msb_in_token c.config_of-config.result.lsb_in_token refl (sym c.config_of-config.ensures.msb_in_token_value) (sym c.config_of-config.ensures.lsb_in_token_value) c.requires.valid in
    let headed : c.power-small.result ≡ 2 ^ (get_or c.args.configs.now (3 * c.args.cluster) 0) = c.power-small.ensures ∙ ap (λ (n : ℕ). 2 ^ n) c.config_of-config.ensures.split_exponent_value in
    let head-told : c.line_kept.result ≡ each (2 ^ (get_or c.args.configs.now (3 * c.args.cluster) 0)) (kept_at c.args.configs.now c.args.symbols.now c.args.ready.now c.args.cluster) =
    c.line_kept.ensures
    ∙ ap (λ (n : ℕ). each n (line_kept c.args.symbols.now c.args.ready.now (128 * c.args.cluster) (256 * c.args.cluster) (fin false 0 (pos 0)))) headed
    ∙ head-all c.args.configs.now c.args.symbols.now c.args.ready.now c.args.cluster (get_or c.args.configs.now (3 * c.args.cluster) 0) c.config_of-config.result.msb_in_token c.config_of-config.result.lsb_in_token refl (sym c.config_of-config.ensures.msb_in_token_value) (sym c.config_of-config.ensures.lsb_in_token_value) (pow_mono {j = 7} (omega (arith, sizes))) in
    sym (each-cut _ (2 ^ (get_or c.args.configs.now (3 * c.args.cluster) 0)) 256 (pow_mono {j = 8} (omega (arith, sizes))) (sym head-told ∙ c.if-not-line_kept.true))

pub overflow_add-m : goal.overflow_add-m
overflow_add-m c =
    let sizes = config-is c.args.configs.now c.args.symbols.now c.args.ready.now c.args.cluster (get_or c.args.configs.now (3 * c.args.cluster) 0) c.config_of-config.result.msb_in_token c.config_of-config.result.lsb_in_token refl (sym c.config_of-config.ensures.msb_in_token_value) (sym c.config_of-config.ensures.lsb_in_token_value) c.requires.valid in
    omega (arith, sizes)

pub loop-n-init : goal.loop-n-init
unfolding of_bits
loop-n-init c =
    let sizes = config-is c.args.configs.now c.args.symbols.now c.args.ready.now c.args.cluster (get_or c.args.configs.now (3 * c.args.cluster) 0) c.config_of-config.result.msb_in_token c.config_of-config.result.lsb_in_token refl (sym c.config_of-config.ensures.msb_in_token_value) (sym c.config_of-config.ensures.lsb_in_token_value) c.requires.valid in
    let start = c.config_of-config.ensures.split_exponent_value in
    let headed : c.power-small.result ≡ 2 ^ (get_or c.args.configs.now (3 * c.args.cluster) 0) = c.power-small.ensures ∙ ap (λ (n : ℕ). 2 ^ n) c.config_of-config.ensures.split_exponent_value in
    let head-told : c.line_kept.result ≡ each (2 ^ (get_or c.args.configs.now (3 * c.args.cluster) 0)) (kept_at c.args.configs.now c.args.symbols.now c.args.ready.now c.args.cluster) =
    c.line_kept.ensures
    ∙ ap (λ (n : ℕ). each n (line_kept c.args.symbols.now c.args.ready.now (128 * c.args.cluster) (256 * c.args.cluster) (fin false 0 (pos 0)))) headed
    ∙ head-all c.args.configs.now c.args.symbols.now c.args.ready.now c.args.cluster (get_or c.args.configs.now (3 * c.args.cluster) 0) c.config_of-config.result.msb_in_token c.config_of-config.result.lsb_in_token refl (sym c.config_of-config.ensures.msb_in_token_value) (sym c.config_of-config.ensures.lsb_in_token_value) (pow_mono {j = 7} (omega (arith, sizes))) in (
      le_of_eq (sym start),
      ap (λ (x : ℕ). 128 * c.args.cluster + x) (headed ∙ first-base (get_or c.args.configs.now (3 * c.args.cluster) 0) c.config_of-config.result.msb_in_token c.config_of-config.result.lsb_in_token ∙ ap (base (get_or c.args.configs.now (3 * c.args.cluster) 0) c.config_of-config.result.msb_in_token c.config_of-config.result.lsb_in_token) (sym start)),
      ap (λ (n : ℕ). each (2 ^ n) (kept_at c.args.configs.now c.args.symbols.now c.args.ready.now c.args.cluster)) start ∙ sym head-told ∙ c.if-not-line_kept.false,
    )

pub power-requires : goal.power-requires
power-requires c =
    let below-8 : c.priced_octaves-end.result ≤ 8 = rw c.priced_octaves-end.ensures (octaves-most (c.config_of-config.result.msb_in_token + c.config_of-config.result.lsb_in_token)) in
    omega (arith, below-8, c.loop-n-test.true)

pub overflow_sub-n : goal.overflow_sub-n
overflow_sub-n c =
    let sizes = config-is c.args.configs.now c.args.symbols.now c.args.ready.now c.args.cluster (get_or c.args.configs.now (3 * c.args.cluster) 0) c.config_of-config.result.msb_in_token c.config_of-config.result.lsb_in_token refl (sym c.config_of-config.ensures.msb_in_token_value) (sym c.config_of-config.ensures.lsb_in_token_value) c.requires.valid in
    omega (arith, sizes, c.loop-n.invariant.0)

pub overflow_sub-n-in-loop-n : goal.overflow_sub-n-in-loop-n
overflow_sub-n-in-loop-n c =
    let sizes = config-is c.args.configs.now c.args.symbols.now c.args.ready.now c.args.cluster (get_or c.args.configs.now (3 * c.args.cluster) 0) c.config_of-config.result.msb_in_token c.config_of-config.result.lsb_in_token refl (sym c.config_of-config.ensures.msb_in_token_value) (sym c.config_of-config.ensures.lsb_in_token_value) c.requires.valid in
    omega (arith, sizes, c.loop-n.invariant.0)

pub octave_kept-requires : goal.octave_kept-requires
octave_kept-requires c =
    let sizes = config-is c.args.configs.now c.args.symbols.now c.args.ready.now c.args.cluster (get_or c.args.configs.now (3 * c.args.cluster) 0) c.config_of-config.result.msb_in_token c.config_of-config.result.lsb_in_token refl (sym c.config_of-config.ensures.msb_in_token_value) (sym c.config_of-config.ensures.lsb_in_token_value) c.requires.valid in
    let below-8 : c.priced_octaves-end.result ≤ 8 = rw c.priced_octaves-end.ensures (octaves-most (c.config_of-config.result.msb_in_token + c.config_of-config.result.lsb_in_token)) in
    let whole : c.loop-n.n ≡ c.config_of-config.result.msb_in_token + c.config_of-config.result.lsb_in_token + (c.loop-n.n - c.config_of-config.result.msb_in_token - c.config_of-config.result.lsb_in_token) = omega (arith, sizes, c.loop-n.invariant.0) in
    let room : base (get_or c.args.configs.now (3 * c.args.cluster) 0) c.config_of-config.result.msb_in_token c.config_of-config.result.lsb_in_token c.loop-n.n + 2 ^ (c.config_of-config.result.msb_in_token + c.config_of-config.result.lsb_in_token) ≤ 128 = octave-room (get_or c.args.configs.now (3 * c.args.cluster) 0) c.config_of-config.result.msb_in_token c.config_of-config.result.lsb_in_token sizes c.loop-n.n (omega (arith, below-8, c.loop-n-test.true)) (rw c.priced_octaves-end.ensures at c.loop-n-test.true) c.loop-n.invariant.0 in
    let few : 2 ^ c.loop-n.n ≤ 2 ^ 7 = pow_mono {j = 7} (omega (arith, below-8, c.loop-n-test.true)) in
    let same : 2 ^ c.loop-n.n ≡ 2 ^ (c.config_of-config.result.msb_in_token + c.config_of-config.result.lsb_in_token + (c.loop-n.n - c.config_of-config.result.msb_in_token - c.config_of-config.result.lsb_in_token)) = ap (λ (k : ℕ). 2 ^ k) whole in
    record {
      bits_bound = omega (arith, whole, below-8, c.loop-n-test.true);
      l_in_bounds = omega (arith, room, c.loop-n.invariant.1, c.requires.priced);
      bits_in_bounds = omega (arith, c.power.ensures, few, same, c.requires.kept);
      by_index = λ i h.
          subst⁻¹ (λ (w : ℕ). symbol_price (at c.args.symbols.now w) ≡ true) (omega (arith, c.loop-n.invariant.1))
          (c.requires.prices (base (get_or c.args.configs.now (3 * c.args.cluster) 0) c.config_of-config.result.msb_in_token c.config_of-config.result.lsb_in_token c.loop-n.n + i) (omega (arith, room)));
    }

pub returns-then-not-octave_kept : goal.returns-then-not-octave_kept
unfolding row_kept
returns-then-not-octave_kept c =
    let sizes = config-is c.args.configs.now c.args.symbols.now c.args.ready.now c.args.cluster (get_or c.args.configs.now (3 * c.args.cluster) 0) c.config_of-config.result.msb_in_token c.config_of-config.result.lsb_in_token refl (sym c.config_of-config.ensures.msb_in_token_value) (sym c.config_of-config.ensures.lsb_in_token_value) c.requires.valid in
    let below-8 : c.priced_octaves-end.result ≤ 8 = rw c.priced_octaves-end.ensures (octaves-most (c.config_of-config.result.msb_in_token + c.config_of-config.result.lsb_in_token)) in
    let whole : c.loop-n.n ≡ c.config_of-config.result.msb_in_token + c.config_of-config.result.lsb_in_token + (c.loop-n.n - c.config_of-config.result.msb_in_token - c.config_of-config.result.lsb_in_token) = omega (arith, sizes, c.loop-n.invariant.0) in
    let room : base (get_or c.args.configs.now (3 * c.args.cluster) 0) c.config_of-config.result.msb_in_token c.config_of-config.result.lsb_in_token c.loop-n.n + 2 ^ (c.config_of-config.result.msb_in_token + c.config_of-config.result.lsb_in_token) ≤ 128 = octave-room (get_or c.args.configs.now (3 * c.args.cluster) 0) c.config_of-config.result.msb_in_token c.config_of-config.result.lsb_in_token sizes c.loop-n.n (omega (arith, below-8, c.loop-n-test.true)) (rw c.priced_octaves-end.ensures at c.loop-n-test.true) c.loop-n.invariant.0 in
    let stepped : each (2 ^ (c.loop-n.n + 1)) (kept_at c.args.configs.now c.args.symbols.now c.args.ready.now c.args.cluster) ≡ c.octave_kept.result =
    octave-step c.args.configs.now c.args.symbols.now c.args.ready.now c.args.cluster (get_or c.args.configs.now (3 * c.args.cluster) 0) c.config_of-config.result.msb_in_token c.config_of-config.result.lsb_in_token refl (sym c.config_of-config.ensures.msb_in_token_value) (sym c.config_of-config.ensures.lsb_in_token_value) c.loop-n.n (c.loop-n.n - c.config_of-config.result.msb_in_token - c.config_of-config.result.lsb_in_token) c.loop-n.from whole c.loop-n.invariant.0 c.loop-n.invariant.1 room c.octave_kept.result
    (c.octave_kept.ensures ∙ ap (λ (x : ℕ). octave_kept c.args.symbols.now c.args.ready.now c.loop-n.from (256 * c.args.cluster + x) c.config_of-config.result.msb_in_token c.config_of-config.result.lsb_in_token (c.loop-n.n - c.config_of-config.result.msb_in_token - c.config_of-config.result.lsb_in_token)) c.power.ensures)
    c.loop-n.invariant.2 in
    sym (each-cut _ (2 ^ (c.loop-n.n + 1)) 256 (pow_mono {j = 8} (omega (arith, below-8, c.loop-n-test.true))) (stepped ∙ c.if-not-octave_kept.true))

pub power-requires-in-loop-n : goal.power-requires-in-loop-n
power-requires-in-loop-n c =
    let sizes = config-is c.args.configs.now c.args.symbols.now c.args.ready.now c.args.cluster (get_or c.args.configs.now (3 * c.args.cluster) 0) c.config_of-config.result.msb_in_token c.config_of-config.result.lsb_in_token refl (sym c.config_of-config.ensures.msb_in_token_value) (sym c.config_of-config.ensures.lsb_in_token_value) c.requires.valid in
    omega (arith, sizes)

pub overflow_add-from-in-loop-n : goal.overflow_add-from-in-loop-n
overflow_add-from-in-loop-n c =
    let sizes = config-is c.args.configs.now c.args.symbols.now c.args.ready.now c.args.cluster (get_or c.args.configs.now (3 * c.args.cluster) 0) c.config_of-config.result.msb_in_token c.config_of-config.result.lsb_in_token refl (sym c.config_of-config.ensures.msb_in_token_value) (sym c.config_of-config.ensures.lsb_in_token_value) c.requires.valid in
    let below-8 : c.priced_octaves-end.result ≤ 8 = rw c.priced_octaves-end.ensures (octaves-most (c.config_of-config.result.msb_in_token + c.config_of-config.result.lsb_in_token)) in
    let room : base (get_or c.args.configs.now (3 * c.args.cluster) 0) c.config_of-config.result.msb_in_token c.config_of-config.result.lsb_in_token c.loop-n.n + 2 ^ (c.config_of-config.result.msb_in_token + c.config_of-config.result.lsb_in_token) ≤ 128 = octave-room (get_or c.args.configs.now (3 * c.args.cluster) 0) c.config_of-config.result.msb_in_token c.config_of-config.result.lsb_in_token sizes c.loop-n.n (omega (arith, below-8, c.loop-n-test.true)) (rw c.priced_octaves-end.ensures at c.loop-n-test.true) c.loop-n.invariant.0 in
    record { fits = omega (arith, c.power-in-loop-n.ensures, room, c.loop-n.invariant.1, c.requires.priced) }

pub loop-n-preserved : goal.loop-n-preserved
loop-n-preserved c =
    let sizes = config-is c.args.configs.now c.args.symbols.now c.args.ready.now c.args.cluster (get_or c.args.configs.now (3 * c.args.cluster) 0) c.config_of-config.result.msb_in_token c.config_of-config.result.lsb_in_token refl (sym c.config_of-config.ensures.msb_in_token_value) (sym c.config_of-config.ensures.lsb_in_token_value) c.requires.valid in
    let below-8 : c.priced_octaves-end.result ≤ 8 = rw c.priced_octaves-end.ensures (octaves-most (c.config_of-config.result.msb_in_token + c.config_of-config.result.lsb_in_token)) in
    let whole : c.loop-n.n ≡ c.config_of-config.result.msb_in_token + c.config_of-config.result.lsb_in_token + (c.loop-n.n - c.config_of-config.result.msb_in_token - c.config_of-config.result.lsb_in_token) = omega (arith, sizes, c.loop-n.invariant.0) in
    let room : base (get_or c.args.configs.now (3 * c.args.cluster) 0) c.config_of-config.result.msb_in_token c.config_of-config.result.lsb_in_token c.loop-n.n + 2 ^ (c.config_of-config.result.msb_in_token + c.config_of-config.result.lsb_in_token) ≤ 128 = octave-room (get_or c.args.configs.now (3 * c.args.cluster) 0) c.config_of-config.result.msb_in_token c.config_of-config.result.lsb_in_token sizes c.loop-n.n (omega (arith, below-8, c.loop-n-test.true)) (rw c.priced_octaves-end.ensures at c.loop-n-test.true) c.loop-n.invariant.0 in
    let stepped : each (2 ^ (c.loop-n.n + 1)) (kept_at c.args.configs.now c.args.symbols.now c.args.ready.now c.args.cluster) ≡ c.octave_kept.result =
    octave-step c.args.configs.now c.args.symbols.now c.args.ready.now c.args.cluster (get_or c.args.configs.now (3 * c.args.cluster) 0) c.config_of-config.result.msb_in_token c.config_of-config.result.lsb_in_token refl (sym c.config_of-config.ensures.msb_in_token_value) (sym c.config_of-config.ensures.lsb_in_token_value) c.loop-n.n (c.loop-n.n - c.config_of-config.result.msb_in_token - c.config_of-config.result.lsb_in_token) c.loop-n.from whole c.loop-n.invariant.0 c.loop-n.invariant.1 room c.octave_kept.result
    (c.octave_kept.ensures ∙ ap (λ (x : ℕ). octave_kept c.args.symbols.now c.args.ready.now c.loop-n.from (256 * c.args.cluster + x) c.config_of-config.result.msb_in_token c.config_of-config.result.lsb_in_token (c.loop-n.n - c.config_of-config.result.msb_in_token - c.config_of-config.result.lsb_in_token)) c.power.ensures)
    c.loop-n.invariant.2 in (
      omega (arith, c.loop-n.invariant.0),
      omega (arith, c.power-in-loop-n.ensures, c.loop-n.invariant.1, next-base (get_or c.args.configs.now (3 * c.args.cluster) 0) c.config_of-config.result.msb_in_token c.config_of-config.result.lsb_in_token c.loop-n.n c.loop-n.invariant.0),
      stepped ∙ c.if-not-octave_kept.false,
    )

pub turns_kept-requires : goal.turns_kept-requires
unfolding above lt
turns_kept-requires c =
    let none = c.infinity-none.ensures in
    record { fours_in_bounds = omega (arith, c.requires.kept); a_above = rw none tt; b_above = rw none tt }

pub returns-then-end-lt8 : goal.returns-then-end-lt8
unfolding row_kept
returns-then-end-lt8 c =
    let sizes = config-is c.args.configs.now c.args.symbols.now c.args.ready.now c.args.cluster (get_or c.args.configs.now (3 * c.args.cluster) 0) c.config_of-config.result.msb_in_token c.config_of-config.result.lsb_in_token refl (sym c.config_of-config.ensures.msb_in_token_value) (sym c.config_of-config.ensures.lsb_in_token_value) c.requires.valid in
    let least = octaves-least (c.config_of-config.result.msb_in_token + c.config_of-config.result.lsb_in_token) in
    let end : c.loop-n.n ≡ c.priced_octaves-end.result = omega (arith, sizes, c.config_of-config.ensures.split_exponent_value, c.priced_octaves-end.ensures, least, c.loop-n-test.false) in
    let none = c.infinity-none.ensures in
    let few = octaves-few (c.config_of-config.result.msb_in_token + c.config_of-config.result.lsb_in_token) (rw c.priced_octaves-end.ensures at c.if-end-lt8.true) in
    let six : (get_or c.args.configs.now (3 * c.args.cluster) 0) ≡ 6 = omega (arith, sizes, few.0) in
    let seven : c.loop-n.n ≡ 7 = omega (arith, end, few.1, c.priced_octaves-end.ensures) in
    sym
    (last-octave c.args.configs.now c.args.symbols.now c.args.ready.now c.args.cluster (get_or c.args.configs.now (3 * c.args.cluster) 0) c.config_of-config.result.msb_in_token c.config_of-config.result.lsb_in_token refl (sym c.config_of-config.ensures.msb_in_token_value) (sym c.config_of-config.ensures.lsb_in_token_value) six few.0
    c.turns_kept.result (rw none at c.turns_kept.ensures) (subst (λ (n : ℕ). each (2 ^ n) (kept_at c.args.configs.now c.args.symbols.now c.args.ready.now c.args.cluster) ≡ true) seven c.loop-n.invariant.2))

pub returns : goal.returns
unfolding row_kept
returns c =
    let sizes = config-is c.args.configs.now c.args.symbols.now c.args.ready.now c.args.cluster (get_or c.args.configs.now (3 * c.args.cluster) 0) c.config_of-config.result.msb_in_token c.config_of-config.result.lsb_in_token refl (sym c.config_of-config.ensures.msb_in_token_value) (sym c.config_of-config.ensures.lsb_in_token_value) c.requires.valid in
    let least = octaves-least (c.config_of-config.result.msb_in_token + c.config_of-config.result.lsb_in_token) in
    let below-8 : c.priced_octaves-end.result ≤ 8 = rw c.priced_octaves-end.ensures (octaves-most (c.config_of-config.result.msb_in_token + c.config_of-config.result.lsb_in_token)) in
    let end : c.loop-n.n ≡ c.priced_octaves-end.result = omega (arith, sizes, c.config_of-config.ensures.split_exponent_value, c.priced_octaves-end.ensures, least, c.loop-n-test.false) in
    let eight : c.loop-n.n ≡ 8 = omega (arith, end, below-8, c.if-end-lt8.false) in
    sym (subst (λ (n : ℕ). each (2 ^ n) (kept_at c.args.configs.now c.args.symbols.now c.args.ready.now c.args.cluster) ≡ true) eight c.loop-n.invariant.2)
