-- Levels as the machine holds them, and tests on them. Assumes nothing.
use mathlib.Core.Path.{◌≡◌, refl, sym, ap, ◌∙◌, subst}
use mathlib.Core.Bool.{Bool, true, false}
use Prim.Native.Nat.{ℕ, zero, suc, ◌+◌, ◌≤◌}
use native.Mathlib.Nat.{le_refl}
use native.Mathlib.Omega.{arith}
use borrow.Author.Tests.{eq-eqb, eqb-true}
use lib.Dec.{T, leb→le, lit≤}
use lib.IntN.{ℤ, pos, negsuc, nat_abs, suc_ℤ, pred_ℤ, ◌+ℤ◌, ◌-ℤ◌, +ℤ_one, -ℤ_one}
use mir.Syntax.{w32}
use mir.Val.{SFits, of_z, to_z}
use mir.ValLaws.{to_z-of_z}
use Rattle.candidates.specs.Candidates.{eq_z, is_current}

pub in-sfits : (q : ℤ) → nat_abs q ≤ 32768 → SFits w32 q
in-sfits (pos n) h = record { sfits = omega arith }
in-sfits (negsuc n) h = record { sfits = omega arith }

pub in-back : (q : ℤ) → nat_abs q ≤ 32768 → to_z w32 (of_z w32 q) ≡ q
in-back q h = to_z-of_z w32 q (in-sfits q h)

pub zero-sfits : SFits w32 (pos 0)
zero-sfits = in-sfits (pos 0) (lit≤ tt)

pub wider : {n : ℕ} → n ≤ 32767 → n ≤ 32768
wider h = omega arith

pub current-size : (q : ℤ) → T (is_current q) → nat_abs q ≤ 32767
current-size q h = leb→le (nat_abs q) 32767 h

-- ---- tests for equality

pub same_bits : (a b : ℤ) → SFits w32 a → SFits w32 b → of_z w32 a ≡ of_z w32 b → a ≡ b
same_bits a b h k e = sym (to_z-of_z w32 a h) ∙ ap (to_z w32) e ∙ to_z-of_z w32 b k

pub eq_z-refl : (a : ℤ) → eq_z a a ≡ true
eq_z-refl (pos n) = eq-eqb n n refl
eq_z-refl (negsuc n) = eq-eqb n n refl

pub eq-eq_z : (a b : ℤ) → a ≡ b → eq_z a b ≡ true
eq-eq_z a b e = subst (λ (z : ℤ). eq_z a z ≡ true) e (eq_z-refl a)

pub eq_z-true : (a b : ℤ) → eq_z a b ≡ true → a ≡ b
eq_z-true (pos a) (pos b) e = ap pos (eqb-true a b e)
eq_z-true (pos a) (negsuc b) e = let z : ◌≡◌ {A = ℕ} 0 1 = cc in absurd (none z)
  where
    none : ◌≡◌ {A = ℕ} 0 1 → ⊥
    none z = omega arith
eq_z-true (negsuc a) (pos b) e = let z : ◌≡◌ {A = ℕ} 0 1 = cc in absurd (none z)
  where
    none : ◌≡◌ {A = ℕ} 0 1 → ⊥
    none z = omega arith
eq_z-true (negsuc a) (negsuc b) e = ap negsuc (eqb-true a b e)

pub ne-eq_z : (a b : ℤ) → (a ≡ b → ⊥) → eq_z a b ≡ false
ne-eq_z a b h = go (eq_z a b) (eq_z-true a b)
  where
    go : (t : Bool) → (t ≡ true → a ≡ b) → t ≡ false
    go true k = absurd (h (k refl))
    go false k = refl

-- ---- a level and its neighbours differ

bump : (n : ℕ) → suc n ≡ n → ⊥
bump n e = omega arith

pos_inj : {a b : ℕ} → pos a ≡ pos b → a ≡ b
pos_inj e = cc

negsuc-inj : {a b : ℕ} → negsuc a ≡ negsuc b → a ≡ b
negsuc-inj e = cc

no-mix : {a b : ℕ} → pos a ≡ negsuc b → ⊥
no-mix e = let z : ◌≡◌ {A = ℕ} 0 1 = cc in omega arith

pub not-suc : (q : ℤ) → suc_ℤ q ≡ q → ⊥
not-suc (pos n) e = bump n (pos_inj e)
not-suc (negsuc zero) e = no-mix e
not-suc (negsuc (suc n)) e = bump n (sym (negsuc-inj e))

bump2 : (n : ℕ) → suc (suc n) ≡ n → ⊥
bump2 n e = omega arith

pub not-suc2 : (q : ℤ) → suc_ℤ (suc_ℤ q) ≡ q → ⊥
not-suc2 (pos n) e = bump2 n (pos_inj e)
not-suc2 (negsuc zero) e = no-mix e
not-suc2 (negsuc (suc zero)) e = no-mix e
not-suc2 (negsuc (suc (suc n))) e = bump2 n (sym (negsuc-inj e))

-- ---- a step's size

pub abs-suc : (q : ℤ) → nat_abs (suc_ℤ q) ≤ suc (nat_abs q)
abs-suc (pos n) = le_refl (suc n)
abs-suc (negsuc zero) = omega arith
abs-suc (negsuc (suc n)) = omega arith

pub abs-pred : (q : ℤ) → nat_abs (pred_ℤ q) ≤ suc (nat_abs q)
abs-pred (pos zero) = omega arith
abs-pred (pos (suc n)) = omega arith
abs-pred (negsuc n) = le_refl (suc (suc n))

-- a step from a level that check 12 passes
pub suc-in : (q : ℤ) → nat_abs q ≤ 32767 → nat_abs (suc_ℤ q) ≤ 32768
suc-in q h = let k = abs-suc q in omega arith

pub pred_in : (q : ℤ) → nat_abs q ≤ 32767 → nat_abs (pred_ℤ q) ≤ 32768
pred_in q h = let k = abs-pred q in omega arith

-- the machine's steps
pub plus_one : (q : ℤ) → nat_abs q ≤ 32767 → to_z w32 (of_z w32 q) +ℤ pos 1 ≡ suc_ℤ q
plus_one q h = ap (λ (z : ℤ). z +ℤ pos 1) (in-back q (wider h)) ∙ +ℤ_one q

pub minus_one : (q : ℤ) → nat_abs q ≤ 32767 → to_z w32 (of_z w32 q) -ℤ pos 1 ≡ pred_ℤ q
minus_one q h = ap (λ (z : ℤ). z -ℤ pos 1) (in-back q (wider h)) ∙ -ℤ_one q

pub plus-sfits : (q : ℤ) → nat_abs q ≤ 32767 → SFits w32 (to_z w32 (of_z w32 q) +ℤ pos 1)
plus-sfits q h = subst (λ (z : ℤ). SFits w32 z) (sym (plus_one q h)) (in-sfits (suc_ℤ q) (suc-in q h))

pub minus-sfits : (q : ℤ) → nat_abs q ≤ 32767 → SFits w32 (to_z w32 (of_z w32 q) -ℤ pos 1)
minus-sfits q h = subst (λ (z : ℤ). SFits w32 z) (sym (minus_one q h)) (in-sfits (pred_ℤ q) (pred_in q h))

pub plus-back : (q : ℤ) → nat_abs q ≤ 32767 → to_z w32 (of_z w32 (to_z w32 (of_z w32 q) +ℤ pos 1)) ≡ suc_ℤ q
plus-back q h = ap (λ (z : ℤ). to_z w32 (of_z w32 z)) (plus_one q h) ∙ in-back (suc_ℤ q) (suc-in q h)

pub minus-back : (q : ℤ) → nat_abs q ≤ 32767 → to_z w32 (of_z w32 (to_z w32 (of_z w32 q) -ℤ pos 1)) ≡ pred_ℤ q
minus-back q h = ap (λ (z : ℤ). to_z w32 (of_z w32 z)) (minus_one q h) ∙ in-back (pred_ℤ q) (pred_in q h)
