-- Floats in units of 2 ^ -149: 1.0, and the smallest subnormal number. Assumes nothing.
use mathlib.Core.Path.{◌≡◌, refl}
use Prim.Native.Nat.{ℕ, ◌^◌}
use lib.Ieee.{of_bits, binary32}
use Rattle.exact.specs.Units.{in_units}

-- 0x3f800000 is 1.0
pub one-in-units : in_units binary32 (of_bits binary32 1065353216) ≡ 2 ^ 149
unfolding in_units of_bits
one-in-units = refl

pub least-in-units : in_units binary32 (of_bits binary32 1) ≡ 1
unfolding in_units of_bits
least-in-units = refl
