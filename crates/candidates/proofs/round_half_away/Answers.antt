use mathlib.Core.Path.{◌≡◌, sym, ap, ◌∙◌, subst}
use mathlib.Core.Bool.{Bool}
use Prim.Native.Nat.{ℕ, zero, suc, ◌-◌, ◌^◌, ◌<◌}
use lib.Dec.{lit<}
use native.Mathlib.Omega.{arith}
use borrow.Author.Tests.{le-leb, lt-leb}
use lib.IntN.{ℤ, pos, neg_ℤ, ◌-ℤ◌}
use lib.Ieee.{binary32, to_bits}
use mir.Syntax.{w32}
use mir.Val.{SFits, to_z, of_z}
use mir.ValLaws.{to_z_pos, to_z-of_z}
use Rattle.candidates.specs.Nearest.{signed}
use Rattle.candidates.proofs.Rounding.{exponent_of, rounded_size, ideal-number, bits-under, bits_small, bits-large, halves_small, rounded-small, minus_pos}
use Rattle.candidates.proofs.round_half_away.Goals as goal

pub float_to_bits-bits : goal.float_to_bits-bits
float_to_bits-bits c = ideal-number c.args.x c.requires

pub returns-then-exponent-lt126 : goal.returns-then-exponent-lt126
returns-then-exponent-lt126 c = sym (bits_small c.args.x c.well_formed.0.1 c.requires c.if-exponent-lt126.true)

pub overflow_add-digits : goal.overflow_add-digits
overflow_add-digits c = omega arith

pub overflow_sub-halves : goal.overflow_sub-halves
overflow_sub-halves c = let h = bits-under c.args.x c.well_formed.0.1 c.requires in omega arith

pub overflow_shr-halves : goal.overflow_shr-halves
overflow_shr-halves c = let l : 126 - 1 < exponent_of (to_bits binary32 c.args.x) = c.if-exponent-lt126.false in omega arith

pub overflow_add-size : goal.overflow_add-size
overflow_add-size c =
    let b = to_bits binary32 c.args.x in
    let h = halves_small b (2 ^ (149 - exponent_of b)) in
    omega arith

small : (n : ℕ) → n < 16777216 → n < 2 ^ 31
small n h = omega arith

pub overflow_cast-size : goal.overflow_cast-size
overflow_cast-size c =
    let b = to_bits binary32 c.args.x in
    record { sfits = small (rounded_size b) (rounded-small b) }

as_int : (n : ℕ) → n < 16777216 → to_z w32 n ≡ pos n
as_int n h = to_z_pos w32 n (small n h)

negated : (n : ℕ) → n < 16777216 → SFits w32 (neg_ℤ (pos n))
negated zero h = record { sfits = lit< tt }
negated (suc n) h = record { sfits = omega arith }

pub overflow_sub-result : goal.overflow_sub-result
overflow_sub-result c =
    let b = to_bits binary32 c.args.x in
    subst (λ (z : ℤ). SFits w32 z) (sym (ap (λ (z : ℤ). pos 0 -ℤ z) (as_int (rounded_size b) (rounded-small b)) ∙ minus_pos (rounded_size b))) (negated (rounded_size b) (rounded-small b))

pub returns-then-bits-lt2147483648 : goal.returns-then-bits-lt2147483648
returns-then-bits-lt2147483648 c =
    let b = to_bits binary32 c.args.x in
    as_int (rounded_size b) (rounded-small b)
    ∙ sym (bits-large c.args.x c.well_formed.0.1 c.requires c.if-exponent-lt126.false ∙ ap (λ (s : Bool). signed s (rounded_size b)) (lt-leb 2147483648 b c.if-bits-lt2147483648.true))

pub returns-else-bits-lt2147483648 : goal.returns-else-bits-lt2147483648
returns-else-bits-lt2147483648 c =
    let b = to_bits binary32 c.args.x in
    ap (λ (z : ℤ). to_z w32 (of_z w32 z)) (ap (λ (z : ℤ). pos 0 -ℤ z) (as_int (rounded_size b) (rounded-small b)) ∙ minus_pos (rounded_size b))
    ∙ to_z-of_z w32 (neg_ℤ (pos (rounded_size b))) (negated (rounded_size b) (rounded-small b))
    ∙ sym (bits-large c.args.x c.well_formed.0.1 c.requires c.if-exponent-lt126.false ∙ ap (λ (s : Bool). signed s (rounded_size b)) (le-leb 2147483648 b c.if-bits-lt2147483648.false))
