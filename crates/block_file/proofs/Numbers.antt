-- Floats and levels by their bits. Assumes nothing.
use mathlib.Core.Path.{◌≡◌, refl, sym, ap, subst, ◌∙◌}
use mathlib.Core.Bool.{Bool, true, false, not, true≢false}
use Prim.Native.Nat.{ℕ, ◌%◌, ◌<◌, ◌≤◌, zero, suc, ◌-◌}
use native.Mathlib.Omega.{arith}
use lib.Dec.{T, ltb, lt→ltb, ltb→lt, not_T}
use lib.IntN.{ℤ, pos, negsuc, ◌-ℤ◌}
use lib.Ieee.{Float, nan, inf, fin, binary32, of_bits, nan_bits, is_nan, ne}
use lib.Ieee.Compare.{nan_differs}
use lib.Ieee.Bits.{nan_bits_is, nan_bits_above, is_true}
use mir.Val.{to_z, of_z, SFits}
use mir.ValLaws.{of_z-to_z, to_z_pos}
use mir.Syntax.{w32}
use native.Mathlib.Nat.{zero-add}

only_nan : (x : Float) → is_nan x ≡ true → x ≡ nan
unfolding is_nan
only_nan nan h = refl
only_nan (inf s) h = cc
only_nan (fin s m e) h = cc

pub reads-nan : (b : ℕ) → 2139095040 < b % 2147483648 → of_bits binary32 b ≡ nan
reads-nan b h = only_nan (of_bits binary32 b) (sym (nan_bits_is binary32 b) ∙ nan_bits_above binary32 b ∙ is_true _ (lt→ltb 2139095040 (b % 2147483648) h))

pub no_nan : (b : ℕ) → b % 2147483648 ≤ 2139095040 → T (not (nan_bits binary32 b))
no_nan b h = subst (λ (x : Bool). T (not x)) (sym (nan_bits_above binary32 b)) (not_T (ltb 2139095040 (b % 2147483648)) (λ t. let l = ltb→lt 2139095040 (b % 2147483648) t in omega arith))

-- a float that equals itself
pub number : (x : Float) → ne x x ≡ false → T (not (is_nan x))
unfolding is_nan
number nan e = absurd (true≢false (sym nan_differs ∙ e))
number (inf s) e = tt
number (fin s m d) e = tt

minus_one : (x : ℕ) → negsuc 0 -ℤ pos x ≡ negsuc x
minus_one zero = refl
minus_one (suc n) = ap (λ (k : ℕ). negsuc (suc k)) (zero-add n)

-- -1 less a number of 31 bits
below : (x : ℕ) → x < 2147483648 → negsuc 0 -ℤ to_z w32 x ≡ negsuc x
below x h = ap (λ (z : ℤ). negsuc 0 -ℤ z) (to_z_pos w32 x h) ∙ minus_one x

module _ (b : ℕ) (high : 2147483648 ≤ b) (f : b < 4294967296) where
  pub below-fits : SFits w32 (negsuc 0 -ℤ to_z w32 (4294967295 - b))
  below-fits = subst (λ (z : ℤ). SFits w32 z) (sym (below (4294967295 - b) (omega arith))) (record { sfits = omega arith })

  pub below-bits : to_z w32 (of_z w32 (negsuc 0 -ℤ to_z w32 (4294967295 - b))) ≡ to_z w32 b
  below-bits =
      let same : of_z w32 (negsuc (4294967295 - b)) ≡ b = omega arith in
      ap (λ (z : ℤ). to_z w32 (of_z w32 z)) (below (4294967295 - b) (omega arith)) ∙ ap (λ (n : ℕ). to_z w32 n) same

-- a level handed over as 32 bits is the level
pub handed : {z : ℤ} (n m : ℕ) → m ≡ n → n < 4294967296 → z ≡ to_z w32 m → to_z w32 (of_z w32 z) ≡ to_z w32 n
handed n m k f e =
    ap (λ (y : ℤ). to_z w32 (of_z w32 y)) (e ∙ ap (λ (y : ℕ). to_z w32 y) k)
    ∙ ap (λ (y : ℕ). to_z w32 y) (of_z-to_z w32 n (record { fits = f }))
