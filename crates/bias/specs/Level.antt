-- The value that a decoder restores from a quantised level, with its bias (ISO/IEC 18181-1, quantisation bias), and the
-- records of document 01's check 10. Definitions only.
use Rattle.std.specs.Prelude.{zero, suc, Bool, false, ◌&&◌, leb, ℤ, pos, negsuc, nat_abs, Float}
use Rattle.std.specs.Float.{fin, binary32}
use Rattle.std.specs.Float.Ieee.{of_bits, of_int, neg, sub, div, le, eq}
use Rattle.bias.specs.declared.DequantBias.{DequantBias}

-- the f32 0.145, the standard's default numerator
unfoldable pub numerator0145 : Float
numerator0145 = of_bits binary32 0x3e14_7ae1

-- q - numerator / q: one rounding for the quotient, one for the difference
unfoldable pub corrected : Float → Float → Float
corrected numerator q = sub binary32 q (div binary32 numerator q)

-- 0 gives 0, ±1 gives ± one, any other q gives q - numerator / q
unfoldable pub level_of : Float → Float → ℤ → Float
unfolding corrected
level_of one numerator (pos zero) = fin false 0 (pos 0)
level_of one numerator (pos (suc zero)) = one
level_of one numerator (negsuc zero) = neg one
level_of one numerator (pos (suc (suc n))) = corrected numerator (of_int binary32 (pos (suc (suc n))))
level_of one numerator (negsuc (suc n)) = corrected numerator (of_int binary32 (negsuc (suc n)))

-- The level under a bias record.
unfoldable pub biased : DequantBias → ℤ → Float
unfolding level_of
biased b q = level_of b.one b.numerator q

-- The levels that the leaves take: -32,768 to 32,768.
abbrev pub is_level : ℤ → Bool
is_level q = leb (nat_abs q) 32768

-- Check 10 of a bias record: `one` lies in 0 to 2 (a NaN does not, -0.0 does), and the numerator is 0.145.
unfoldable pub valid_bias : DequantBias → Bool
valid_bias b =
    le (fin false 0 (pos 0)) b.one && le b.one (fin false 1 (pos 1)) && eq b.numerator numerator0145
