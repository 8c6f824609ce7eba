-- The sides of a block: powers of two, and so is their product. Assumes nothing.
use mathlib.Core.Path.{◌≡◌, refl, sym, ◌∙◌, ap₂}
use mathlib.Core.Bool.{Bool, true, false, ◌||◌, false≢true, or-false}
use mathlib.Core.Logic.{◌⊎◌, inl, inr, ⊎_elim}
use Prim.Native.Nat.{ℕ, zero, suc, ◌+◌, ◌*◌, ◌^◌, ◌≤◌, ◌<◌}
use native.Mathlib.Nat.{mul-le-mul}
use native.Mathlib.Omega.{arith}
use borrow.Author.Tests.{eqb-true, ne_eqb}
use lib.Dec.{eqb}
use lib.Pow.{pow-add, pow_mono}
use Rattle.ac_context.specs.Contexts.{is_power_below, Covered}

or_cases : (a b : Bool) → a || b ≡ true → (a ≡ true) ⊎ (b ≡ true)
or_cases true b e = inl refl
or_cases false b e = inr e

-- a power of two below 2 ^ n, with its logarithm
pub power-of : (n x : ℕ) → is_power_below n x ≡ true → (k : ℕ) × (k < n) × (x ≡ 2 ^ k)
unfolding is_power_below
power-of zero x e = absurd (false≢true e)
power-of (suc n) x e =
    let rest : is_power_below n x ≡ true → (k : ℕ) × (k < suc n) × (x ≡ 2 ^ k) = λ d. let w = power-of n x d in (w.0, omega arith, w.2) in
    ⊎_elim (λ d. (n, omega arith, eqb-true x (2 ^ n) d)) rest (or_cases (eqb x (2 ^ n)) (is_power_below n x) e)

pub side-most : (x : ℕ) → is_power_below 6 x ≡ true → x ≤ 32
side-most x e = let w = power-of 6 x e in rw w.2 (pow_mono {j = 5} (omega arith))

pub product-most : (x y : ℕ) → is_power_below 6 x ≡ true → is_power_below 6 y ≡ true → x * y ≤ 1024
product-most x y e d = mul-le-mul (side-most x e) (side-most y d)

-- the covered blocks of two sides
pub sides-covered : (x y : ℕ) → is_power_below 6 x ≡ true → is_power_below 6 y ≡ true → (k : ℕ) × Covered (x * y) k
sides-covered x y e d =
    let v = power-of 6 x e in
    let w = power-of 6 y d in
    (v.0 + w.0, record { power = ap₂ ◌*◌ v.2 w.2 ∙ sym (pow-add 2 v.0 w.0); most = omega arith })

-- the last test of a side
pub last-side : (x : ℕ) → (x ≡ 32 → ⊥) → (x ≡ 16 → ⊥) → (x ≡ 8 → ⊥) → (x ≡ 4 → ⊥) → (x ≡ 2 → ⊥) → eqb x 1 ≡ is_power_below 6 x
unfolding is_power_below
last-side x a b c d e = rw (ne_eqb x 32 a, ne_eqb x 16 b, ne_eqb x 8 c, ne_eqb x 4 d, ne_eqb x 2 e) (sym (or-false (eqb x 1)))
