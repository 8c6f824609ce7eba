-- The tests of the domain, against what they test. Assumes nothing.
use mathlib.Core.Path.{◌≡◌, refl, sym, ap, ◌∙◌, subst⁻¹}
use mathlib.Core.Bool.{Bool, true, false, ◌&&◌, ◌||◌, or-true, true≢false}
use Prim.Native.Nat.{ℕ, zero, suc, ◌+◌, ◌-◌, ◌*◌, ◌%◌, ◌≤◌, ◌<◌, ◌^◌}
use native.Mathlib.Nat.{le_refl, add-zero, add-suc, one-mul, mod-eq_of_lt, lt_of_le_of_lt}
use native.Mathlib.Omega.{arith}
use borrow.Author.Tests.{eq-eqb, ne_eqb, eqb-true, leb-true, ltb-true}
use lib.Dec.{eqb, leb, ltb, lit<}
use lib.Pow.{pow_mono, pow-add}
use Rattle.laws.proofs.Tests.{and_left, and_right}
use Rattle.ac_context.specs.Contexts.{is_power_below, is_covered, is_coefficient, Coefficient, Covered, Logarithm}

power-by : (d r c : ℕ) → c ≡ 2 ^ r → is_power_below (suc (r + d)) c ≡ true
unfolding is_power_below
power-by zero r c e = rw (add-zero, eq-eqb _ _ e)
power-by (suc d) r c e = rw (add-suc, power-by d r c e, or-true)

pub power_below : (n r c : ℕ) → r < n → c ≡ 2 ^ r → is_power_below n c ≡ true
power_below n r c h e =
    let same : n ≡ suc (r + (n - suc r)) = omega arith in
    rw same (power-by (n - suc r) r c e)

pub no_power : (c : ℕ) → is_power_below 0 c ≡ false
unfolding is_power_below
no_power c = refl

pub no-power-more : (n c : ℕ) → is_power_below n c ≡ false → (c ≡ 2 ^ n → ⊥) → is_power_below (suc n) c ≡ false
unfolding is_power_below
no-power-more n c below here = rw (ne_eqb _ _ here) below

-- what `1 << k` is
pub one_shl : (k : ℕ) → k < 11 → 1 * 2 ^ k % 2 ^ 64 ≡ 2 ^ k
one_shl k h = rw one-mul (mod-eq_of_lt (lt_of_le_of_lt (pow_mono {j = 10} (omega arith)) (lit< tt)))

pub coefficient : (c remaining k prev : ℕ) → is_coefficient c remaining k prev ≡ true → Coefficient c remaining k prev
unfolding is_coefficient
coefficient c r k p e =
    let most = and_left (leb 1 r && leb (r + k) (64 * c) && leb c k) (ltb p 2) e in
    let first = and_left (leb 1 r && leb (r + k) (64 * c)) (leb c k) most in
    record {
      some = leb-true _ _ (and_left (leb 1 r) (leb (r + k) (64 * c)) first);
      left = leb-true _ _ (and_right (leb 1 r) (leb (r + k) (64 * c)) first);
      coded = leb-true _ _ (and_right (leb 1 r && leb (r + k) (64 * c)) (leb c k) most);
      flag = ltb-true _ _ (and_right (leb 1 r && leb (r + k) (64 * c) && leb c k) (ltb p 2) e);
    }

-- a number that passes the test is a power of two
pub record Power (n c : ℕ) : Type 0 where
  pub log2 : ℕ
  pub below : log2 < n
  pub is : c ≡ 2 ^ log2

pub which-power : (n c : ℕ) → is_power_below n c ≡ true → Power n c
unfolding is_power_below
which-power zero c e = absurd (true≢false (sym e))
which-power (suc n) c e = go (eqb c (2 ^ n)) refl (λ h. which-power n c h) e
  where
    go : (b : Bool) → eqb c (2 ^ n) ≡ b → (is_power_below n c ≡ true → Power n c) → b || is_power_below n c ≡ true → Power (suc n) c
    go true t later f = record { log2 = n; below = le_refl (suc n); is = eqb-true c (2 ^ n) t }
    go false t later f = let p = later f in record { log2 = p.log2; below = omega (arith, p.below); is = p.is }

powers : (a b i j : ℕ) → a ≡ 2 ^ i → b ≡ 2 ^ j → a * b ≡ 2 ^ (i + j)
powers a b i j p q = ap (λ (n : ℕ). n * b) p ∙ ap (λ (n : ℕ). 2 ^ i * n) q ∙ sym (pow-add 2 i j)

-- two sides of a block: their product covers, and has the sum of their logarithms
pub sides-cover : (a b : ℕ) → is_power_below 6 a ≡ true → is_power_below 6 b ≡ true → is_covered (a * b) ≡ true
unfolding is_covered
sides-cover a b p q =
    let x = which-power 6 a p in
    let y = which-power 6 b q in
    let same = powers a b x.log2 y.log2 x.is y.is in
    power_below 11 (x.log2 + y.log2) (a * b) (omega (arith, x.below, y.below)) same

pub sides-most : (a b : ℕ) → is_power_below 6 a ≡ true → is_power_below 6 b ≡ true → a * b ≤ 1024
sides-most a b p q =
    let x = which-power 6 a p in
    let y = which-power 6 b q in
    subst⁻¹ (λ (n : ℕ). n ≤ 1024) (powers a b x.log2 y.log2 x.is y.is) (pow_mono {j = 10} (omega (arith, x.below, y.below)))

-- a number of covered blocks with its logarithm
pub covered-log : (c r : ℕ) → is_covered c ≡ true → Logarithm c r → Covered c r
covered-log c r e w =
    let small : r < 11 = ltb-true r 11 (sym w.tested ∙ e) in
    record { power = w.power small; most = omega arith }
