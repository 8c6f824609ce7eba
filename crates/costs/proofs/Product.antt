-- Products of costs: a positive finite factor times a cost is a cost, larger with each factor, and +infinity where the cost is. A square of anything but a NaN is a cost.
-- Assumes nothing.
use mathlib.Core.Path.{◌≡◌, sym, subst, refl}
use Prim.Native.Nat.{ℕ, ◌*◌, ◌≤◌, ◌<◌}
use native.Mathlib.Nat.{le_of_eq, mul-pos, mul-le-mul, mul-mul-mul_comm}
use native.Mathlib.Nat as Nat
use native.Mathlib.Omega.{arith}
use mathlib.Core.Bool.{true, false, not}
use lib.IntN.{ℤ}
use lib.Dec.{T, eqb, ltb→lt, eqb→eq, not_T}
use lib.Ieee.{Float, nan, inf, fin, Format, up, down, mul, le, is_nan, round}
use lib.Ieee.Bits.{cond_no}
use lib.Ieee.Fits.{down_pos}
use lib.Ieee.Order.{round_mono}
use lib.Ieee.Positive.{positive}
use lib.Ieee.Scale.{finite}
use Rattle.costs.specs.Cost.{cost}
use Rattle.costs.proofs.View.{Cost, at-inf, at-fin, view, viewed}
use Rattle.costs.proofs.Order as Order
use Rattle.costs.proofs.Sum.{round-cost}

-- ---- a factor that is finite and above zero
data Factor : Float → Type 0 where
  factor : (m : ℕ) (e : ℤ) → 0 < m → Factor (fin false m e)

factored : (x : Float) → T (positive x) → Factor x
factored nan h = absurd h
factored (inf s) h = absurd h
factored (fin true m e) h = absurd h
factored (fin false m e) h = factor m e (ltb→lt 0 m h)

-- it is a cost
pub positive-cost : (x : Float) → T (positive x) → T (cost x)
positive-cost x h = go (factored x h)
  where
    go : {x : Float} → Factor x → T (cost x)
    go (factor m e p) = viewed (at-fin m e)

not-zero : (m : ℕ) → 0 < m → T (not (eqb m 0))
not-zero m h = not_T (eqb m 0) (λ (k : T (eqb m 0)). clash (eqb→eq m 0 k))
  where
    clash : m ≡ 0 → ⊥
    clash k = omega arith

-- it takes +infinity to +infinity
pub mul-inf : (f : Format) (x : Float) → T (positive x) → mul f x (inf false) ≡ inf false
unfolding mul
mul-inf f x h = go (factored x h)
  where
    go : {x : Float} → Factor x → mul f x (inf false) ≡ inf false
    go (factor m e p) = cond_no (eqb m 0) nan (inf false) (not-zero m p)

pub mul-fin : (f : Format) (m : ℕ) (e : ℤ) (n : ℕ) (d : ℤ) → mul f (fin false m e) (fin false n d) ≡ round f false (m * up e * (n * up d)) (down e * down d)
unfolding mul
mul-fin f m e n d = refl

pub mul-cost : (f : Format) (x y : Float) → T (positive x) → T (cost y) → T (cost (mul f x y))
unfolding mul
mul-cost f x y p b = go (factored x p) (view y b)
  where
    go : {x y : Float} → Factor x → Cost y → T (cost (mul f x y))
    go (factor m e p) at-inf = subst (λ (z : Float). T (cost z)) (sym (cond_no (eqb m 0) nan (inf false) (not-zero m p))) (viewed at-inf)
    go (factor m e p) (at-fin n d) = round-cost f (m * up e * (n * up d)) (down e * down d)

-- two finite costs have a product that is a cost, zeros included
pub mul-finite-cost : (f : Format) (x y : Float) → T (cost x) → T (cost y) → T (finite x) → T (finite y) → T (cost (mul f x y))
unfolding mul
mul-finite-cost f x y a b = go (view x a) (view y b)
  where
    go : {x y : Float} → Cost x → Cost y → T (finite x) → T (finite y) → T (cost (mul f x y))
    go at-inf b h k = absurd h
    go (at-fin m e) at-inf h k = absurd k
    go (at-fin m e) (at-fin n d) h k = round-cost f (m * up e * (n * up d)) (down e * down d)

-- ---- larger with each factor
-- A / p * (B / q) ≤ C / r * (D / s) where A / p ≤ C / r and B / q ≤ D / s
product-cross : (A p B q C r D s : ℕ) → A * r ≤ C * p → B * s ≤ D * q → A * B * (r * s) ≤ C * D * (p * q)
product-cross A p B q C r D s h k =
    Nat.le_trans (le_of_eq (mul-mul-mul_comm A B r s)) (Nat.le_trans (mul-le-mul h k) (le_of_eq (mul-mul-mul_comm C p D q)))

pub mul_mono : (f : Format) (x y x' y' : Float) → T (positive x) → T (cost y) → T (positive x') → T (cost y') → T (le x x') → T (le y y') → T (le (mul f x y) (mul f x' y'))
unfolding mul le
mul_mono f x y x' y' a b c d = go (factored x a) (view y b) (factored x' c) (view y' d)
  where
    go : {x y x' y' : Float} → Factor x → Cost y → Factor x' → Cost y' → T (le x x') → T (le y y') → T (le (mul f x y) (mul f x' y'))
    go {x} {y} (factor i u p) b (factor m e q) at-inf h k =
        subst (λ (z : Float). T (le (mul f (fin false i u) y) z)) (sym (cond_no (eqb m 0) nan (inf false) (not-zero m q)))
        (Order.le-inf (mul f (fin false i u) y) (mul-cost f (fin false i u) y (lib.Dec.lt→ltb 0 i p) (viewed b)))
    go (factor i u p) at-inf (factor m e q) (at-fin n d) h k = absurd k
    go (factor i u p) (at-fin j w) (factor m e q) (at-fin n d) h k =
        round_mono f (i * up u * (j * up w)) (down u * down w) (m * up e * (n * up d)) (down e * down d) (mul-pos (down_pos u) (down_pos w)) (mul-pos (down_pos e) (down_pos d))
        (product-cross (i * up u) (down u) (j * up w) (down w) (m * up e) (down e) (n * up d) (down d) (Order.le→cross i u m e h) (Order.le→cross j w n d k))

pub mul-mono-right : (f : Format) (x y y' : Float) → T (positive x) → T (cost y) → T (cost y') → T (le y y') → T (le (mul f x y) (mul f x y'))
mul-mono-right f x y y' a b c h = mul_mono f x y x y' a b a c (Order.le_refl x (positive-cost x a)) h

-- ---- a square
pub square-cost : (f : Format) (x : Float) → T (not (is_nan x)) → T (cost (mul f x x))
unfolding mul is_nan
square-cost f nan h = absurd h
square-cost f (inf true) h = viewed at-inf
square-cost f (inf false) h = viewed at-inf
square-cost f (fin true m e) h = round-cost f (m * up e * (m * up e)) (down e * down e)
square-cost f (fin false m e) h = round-cost f (m * up e * (m * up e)) (down e * down e)
