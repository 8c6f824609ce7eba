use Prim.Native.Nat.{suc, ◌+◌, ◌-◌, ◌*◌, ◌≤◌}
use mathlib.Core.Path.{◌≡◌, ap, ◌∙◌, subst}
use mathlib.Core.Bool.{true, false, true≢false}
use native.Mathlib.Omega.{arith}
use native.Mathlib.Nat.{not-suc-le-zero}
use borrow.Author.Tests.{ltb-true, le-ltb}
use lib.Dec.{T}
use lib.IntN.{ℤ, pos, negsuc, nat_abs, ◌-ℤ◌}
use lib.Signed.{lt_z, non_neg}
use mir.Syntax.{w32}
use mir.Val.{SFits, to_z, of_z}
use mir.ValLaws.{to_z-of_z}
use Rattle.packing.specs.Signed.{pack_signed}
use Rattle.packing.proofs.pack_signed.Goals as goal

back : (v : ℤ) → nat_abs v ≤ 32768 → to_z w32 (of_z w32 v) ≡ v
back (pos n) h = to_z-of_z w32 (pos n) (record { sfits = omega arith })
back (negsuc n) h = to_z-of_z w32 (negsuc n) (record { sfits = omega arith })

-- -1 - v of a negative level
mirrored : (v : ℤ) → nat_abs v ≤ 32768 → lt_z (to_z w32 (of_z w32 v)) (pos 0) ≡ true → negsuc 0 -ℤ to_z w32 (of_z w32 v) ≡ pos (nat_abs v - 1)
mirrored (pos n) h t = absurd (not-suc-le-zero (ltb-true n 0 (subst (λ (z : ℤ). lt_z z (pos 0) ≡ true) (back (pos n) h) t)))
mirrored (negsuc n) h t = ap (λ (z : ℤ). negsuc 0 -ℤ z) (back (negsuc n) h) ∙ rw (le-ltb (suc n) 1 (omega arith))

small : (v : ℤ) → nat_abs v ≤ 32768 → SFits w32 (pos (nat_abs v - 1))
small v h = record { sfits = omega arith }

mirrored-back : (v : ℤ) → nat_abs v ≤ 32768 → lt_z (to_z w32 (of_z w32 v)) (pos 0) ≡ true → to_z w32 (of_z w32 (negsuc 0 -ℤ to_z w32 (of_z w32 v))) ≡ pos (nat_abs v - 1)
mirrored-back v h t = ap (λ (z : ℤ). to_z w32 (of_z w32 z)) (mirrored v h t) ∙ to_z-of_z w32 (pos (nat_abs v - 1)) (small v h)

negative : (v : ℤ) → nat_abs v ≤ 32768 → lt_z (to_z w32 (of_z w32 v)) (pos 0) ≡ true → (nat_abs v - 1) * 2 + 1 ≡ pack_signed v
unfolding pack_signed
negative (pos n) h t = absurd (not-suc-le-zero (ltb-true n 0 (subst (λ (z : ℤ). lt_z z (pos 0) ≡ true) (back (pos n) h) t)))
negative (negsuc n) h t = omega arith

not_negative : (v : ℤ) → nat_abs v ≤ 32768 → lt_z (to_z w32 (of_z w32 v)) (pos 0) ≡ false → (nat_abs v * 2 ≡ pack_signed v) × T (non_neg v)
unfolding pack_signed
not_negative (pos n) h t = (omega arith, tt)
not_negative (negsuc n) h t = absurd (true≢false (subst (λ (z : ℤ). lt_z z (pos 0) ≡ false) (back (negsuc n) h) t))

pub returns-then-level-lt0 : goal.returns-then-level-lt0
returns-then-level-lt0 c =
    rw (mirrored-back c.args.level c.requires c.if-level-lt0.true)
    (negative c.args.level c.requires c.if-level-lt0.true)

pub returns-else-level-lt0 : goal.returns-else-level-lt0
returns-else-level-lt0 c =
    rw (back c.args.level c.requires)
    (not_negative c.args.level c.requires c.if-level-lt0.false).0
