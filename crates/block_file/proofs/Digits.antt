-- How many digits a number takes at most, and the size of a level. Assumes nothing.
use Prim.Native.Nat.{ℕ, suc, ◌+◌, ◌-◌, ◌^◌, ◌<◌, ◌≤◌}
use mathlib.Core.Path.{◌≡◌, ap, ◌∙◌, subst}
use mathlib.Core.Bool.{true, false, true≢false}
use native.Mathlib.Omega.{arith}
use native.Mathlib.Nat.{pow-le-pow_right, not-suc-le-zero, le_of_suc-le-suc, lt_of_not-le}
use borrow.Author.Tests.{ltb-true, le-ltb}
use lib.Dec.{T}
use lib.IntN.{ℤ, pos, negsuc, nat_abs, ◌-ℤ◌}
use lib.Signed.{lt_z, non_neg, mag}
use mir.Syntax.{w32}
use mir.Val.{SFits, to_z, of_z}
use mir.ValLaws.{to_z-of_z}
use Rattle.io.specs.Digits.{IsDigitCount}

sub-one : (m k : ℕ) → m < k → m ≤ k - 1
sub-one m k l = omega arith

more : (b least m n k : ℕ) → 0 < b → least ≤ m → n < b ^ m → IsDigitCount b least n k → m < k → ⊥
more b least m n k some low h f l =
    let one = pow-le-pow_right some (sub-one m k l) in
    let two = f.2 (omega arith) in
    omega arith

pub few-digits : (b least m n k : ℕ) → 0 < b → least ≤ m → n < b ^ m → IsDigitCount b least n k → k ≤ m
few-digits b least m n k some low h f = le_of_suc-le-suc (lt_of_not-le (more b least m n k some low h f))

module _ (v : ℤ) (f : SFits w32 v) where
  pub back : to_z w32 (of_z w32 v) ≡ v
  back = to_z-of_z w32 v f

-- -1 - v of a negative level
mirrored : (v : ℤ) → SFits w32 v → lt_z v (pos 0) ≡ true → negsuc 0 -ℤ v ≡ pos (mag v)
mirrored (pos n) f t = absurd (not-suc-le-zero (ltb-true n 0 t))
mirrored (negsuc n) f t = rw (le-ltb (suc n) 1 (omega arith)) (ap pos (omega arith))

small : (v : ℤ) → SFits w32 v → SFits w32 (pos (mag v))
small v f = record { sfits = f.sfits }

module _ (v : ℤ) (f : SFits w32 v) (t : lt_z (to_z w32 (of_z w32 v)) (pos 0) ≡ true) where
  below-zero : lt_z v (pos 0) ≡ true
  below-zero = subst (λ (z : ℤ). lt_z z (pos 0) ≡ true) (back v f) t

  pub mirrored-fits : SFits w32 (negsuc 0 -ℤ to_z w32 (of_z w32 v))
  mirrored-fits = rw (back v f, mirrored v f below-zero) (small v f)

  pub mirrored-back : to_z w32 (of_z w32 (negsuc 0 -ℤ to_z w32 (of_z w32 v))) ≡ pos (mag v)
  mirrored-back =
      ap (λ (z : ℤ). to_z w32 (of_z w32 (negsuc 0 -ℤ z))) (back v f)
      ∙ ap (λ (z : ℤ). to_z w32 (of_z w32 z)) (mirrored v f below-zero)
      ∙ to_z-of_z w32 (pos (mag v)) (small v f)

  pub negative : mag v + 1 ≡ nat_abs v
  negative = of v below-zero
    where
      of : (v : ℤ) → lt_z v (pos 0) ≡ true → mag v + 1 ≡ nat_abs v
      of (pos n) t = absurd (not-suc-le-zero (ltb-true n 0 t))
      of (negsuc n) t = omega arith

pub not_negative : (v : ℤ) → SFits w32 v → lt_z (to_z w32 (of_z w32 v)) (pos 0) ≡ false → T (non_neg v)
not_negative (pos n) f t = tt
not_negative (negsuc n) f t = absurd (true≢false (subst (λ (z : ℤ). lt_z z (pos 0) ≡ false) (back (negsuc n) f) t))

pub not-larger : (v : ℤ) → nat_abs v ≤ mag v + 1
not-larger (pos n) = omega arith
not-larger (negsuc n) = omega arith
