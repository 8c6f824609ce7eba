-- Sums of costs: a cost again, in either order the same, larger with each term, +infinity with an infinite one; nothing added changes nothing. Assumes nothing.
use mathlib.Core.Path.{◌≡◌, refl, sym, ap, ap₂, ◌∙◌, subst, subst₂}
use Prim.Native.Nat.{ℕ, zero, suc, ◌+◌, ◌-◌, ◌*◌, ◌%◌, ◌^◌, ◌≤◌, ◌<◌}
use native.Mathlib.Nat.{mul_comm, mul_assoc, mul_left_comm, mul_right_comm, mul-one, zero-mul, add-mul, add_comm, mul-pos, mul-le-mul_right, mul-lt-mul_of_pos_right, lt_of_mul-lt-mul_right}
use native.Mathlib.Nat as Nat
use native.Mathlib.Omega.{arith}
use mathlib.Core.Bool.{Bool, true, false, not, ◌&&◌, cond}
use lib.IntN.{ℤ, pos, negsuc}
use lib.Dec.{T, ltb, leb, eqb, ltb→lt, leb→le}
use lib.Pow.{pow-add, pow_pos, pow-lt}
use lib.Ieee.{Float, inf, fin, Format, prec, emax, low, up, down, odd, units, round, add, le, fits}
use lib.Ieee.Fits.{down_pos, round_is, round-fits, and_l, and_r}
use lib.Ieee.Exact.{HasValue, round_exact}
use lib.Ieee.Order.{drop, kept, round_mono, le_of_values}
use lib.Ieee.Scale.{finite}
use Rattle.costs.specs.Cost.{cost}
use Rattle.costs.proofs.View.{Cost, at-inf, at-fin, view, viewed}
use Rattle.costs.proofs.Order as Order

-- ---- what is rounded with a clear sign is a cost
odd-cost : (d q k l : ℕ) → T (cost (odd d false q k l))
unfolding odd cost
odd-cost d zero k l = tt
odd-cost d (suc q) k l = tt

units-cost : (f : Format) (q k : ℕ) → T (cost (units f false q k))
unfolding units
units-cost f q k = go (ltb (q * 2 ^ k) (2 ^ (low f + suc (emax f))))
  where
    go : (b : Bool) → T (cost (cond b (odd (suc (prec f)) false q k (low f)) (inf false)))
    go true = odd-cost (suc (prec f)) q k (low f)
    go false = viewed at-inf

pub round-cost : (f : Format) (num den : ℕ) → T (cost (round f false num den))
round-cost f num den =
    subst (λ (z : Float). T (cost z)) (sym (round_is f false num den)) (units-cost f (kept (prec f) (num * 2 ^ low f) den) (drop (prec f) (num * 2 ^ low f) den))

-- ---- the sum of two finite costs, as a rounded fraction
pub add-fin : (f : Format) (m : ℕ) (e : ℤ) (n : ℕ) (d : ℤ) → add f (fin false m e) (fin false n d) ≡ round f false (m * up e * down d + n * up d * down e) (down e * down d)
unfolding add
add-fin f m e n d = refl

pub add-cost : (f : Format) (x y : Float) → T (cost x) → T (cost y) → T (cost (add f x y))
unfolding add
add-cost f x y a b = go (view x a) (view y b)
  where
    go : {x y : Float} → Cost x → Cost y → T (cost (add f x y))
    go at-inf at-inf = viewed at-inf
    go at-inf (at-fin n d) = viewed at-inf
    go (at-fin m e) at-inf = viewed at-inf
    go (at-fin m e) (at-fin n d) = round-cost f (m * up e * down d + n * up d * down e) (down e * down d)

pub add-comm-cost : (f : Format) (x y : Float) → T (cost x) → T (cost y) → add f x y ≡ add f y x
unfolding add
add-comm-cost f x y a b = go (view x a) (view y b)
  where
    go : {x y : Float} → Cost x → Cost y → add f x y ≡ add f y x
    go at-inf at-inf = refl
    go at-inf (at-fin n d) = refl
    go (at-fin m e) at-inf = refl
    go (at-fin m e) (at-fin n d) = ap₂ (round f false) (add_comm (m * up e * down d) (n * up d * down e)) (mul_comm (down e) (down d))

-- ---- +infinity absorbs
pub inf-add : (f : Format) (x : Float) → T (cost x) → add f (inf false) x ≡ inf false
unfolding add
inf-add f x a = go (view x a)
  where
    go : {x : Float} → Cost x → add f (inf false) x ≡ inf false
    go at-inf = refl
    go (at-fin m e) = refl

pub add-inf : (f : Format) (x : Float) → T (cost x) → add f x (inf false) ≡ inf false
unfolding add
add-inf f x a = go (view x a)
  where
    go : {x : Float} → Cost x → add f x (inf false) ≡ inf false
    go at-inf = refl
    go (at-fin m e) = refl

-- both terms of a finite sum are finite
pub finite-terms : (f : Format) (x y : Float) → T (cost x) → T (cost y) → T (finite (add f x y)) → T (finite x) × T (finite y)
unfolding add
finite-terms f x y a b = go (view x a) (view y b)
  where
    go : {x y : Float} → Cost x → Cost y → T (finite (add f x y)) → T (finite x) × T (finite y)
    go at-inf at-inf h = absurd h
    go at-inf (at-fin n d) h = absurd h
    go (at-fin m e) at-inf h = absurd h
    go (at-fin m e) (at-fin n d) h = (tt, tt)

-- ---- larger with each term
-- A / p + B / q ≤ C / r + D / s where A / p ≤ C / r and B / q ≤ D / s
sum-cross : (A p B q C r D s : ℕ) → A * r ≤ C * p → B * s ≤ D * q → (A * q + B * p) * (r * s) ≤ (C * s + D * r) * (p * q)
sum-cross A p B q C r D s h k =
    let one : A * q * (r * s) ≤ C * s * (p * q) = simp (mul_assoc, mul_comm, mul_left_comm) (simp (mul_assoc, mul_comm, mul_left_comm) at (mul-le-mul_right (q * s) h)) in
    let two : B * p * (r * s) ≤ D * r * (p * q) = simp (mul_assoc, mul_comm, mul_left_comm) (simp (mul_assoc, mul_comm, mul_left_comm) at (mul-le-mul_right (p * r) k)) in
    let l : (A * q + B * p) * (r * s) ≡ A * q * (r * s) + B * p * (r * s) = add-mul (A * q) (B * p) (r * s) in
    let u : (C * s + D * r) * (p * q) ≡ C * s * (p * q) + D * r * (p * q) = add-mul (C * s) (D * r) (p * q) in
    omega arith

pub add-mono : (f : Format) (x y x' y' : Float) → T (cost x) → T (cost y) → T (cost x') → T (cost y') → T (le x x') → T (le y y') → T (le (add f x y) (add f x' y'))
unfolding add le
add-mono f x y x' y' a b c d = go (view x a) (view y b) (view x' c) (view y' d)
  where
    top : {x y : Float} → Cost x → Cost y → T (le (add f x y) (inf false))
    top {x} {y} a b = Order.le-inf (add f x y) (add-cost f x y (viewed a) (viewed b))

    go : {x y x' y' : Float} → Cost x → Cost y → Cost x' → Cost y' → T (le x x') → T (le y y') → T (le (add f x y) (add f x' y'))
    go a b at-inf at-inf h k = top a b
    go a b at-inf (at-fin n d) h k = top a b
    go a b (at-fin m e) at-inf h k = top a b
    go at-inf b (at-fin m e) (at-fin n d) h k = absurd h
    go (at-fin i u) at-inf (at-fin m e) (at-fin n d) h k = absurd k
    go (at-fin i u) (at-fin j w) (at-fin m e) (at-fin n d) h k =
        round_mono f (i * up u * down w + j * up w * down u) (down u * down w) (m * up e * down d + n * up d * down e) (down e * down d) (mul-pos (down_pos u) (down_pos w)) (mul-pos (down_pos e) (down_pos d))
        (sum-cross (i * up u) (down u) (j * up w) (down w) (m * up e) (down e) (n * up d) (down d) (Order.le→cross i u m e h) (Order.le→cross j w n d k))

pub add-mono-left : (f : Format) (x x' y : Float) → T (cost x) → T (cost x') → T (cost y) → T (le x x') → T (le (add f x y) (add f x' y))
add-mono-left f x x' y a b c h = add-mono f x y x' y a c b c h (Order.le_refl y c)

pub add-mono-right : (f : Format) (x y y' : Float) → T (cost x) → T (cost y) → T (cost y') → T (le y y') → T (le (add f x y) (add f x y'))
add-mono-right f x y y' a b c h = add-mono f x y x y' a b a c (Order.le_refl x a) h

-- ---- a value of the format is rounded to itself
-- its size in units of the smallest value
record Grid (f : Format) (m : ℕ) (e : ℤ) : Type 0 where
  small : m < 2 ^ prec f
  at : ℕ
  is : m * up e * 2 ^ low f ≡ m * 2 ^ at * down e
  under : m * 2 ^ at < 2 ^ (low f + suc (emax f))

-- 2 ^ k is at most 2 ^ l only where k is at most l
pow_le_back : (k l : ℕ) → 2 ^ k ≤ 2 ^ l → k ≤ l
pow_le_back k l h = go (leb k l) (leb→le k l) (lib.Dec.nleb→lt k l)
  where
    go : (b : Bool) → (T b → k ≤ l) → (T (not b) → l < k) → k ≤ l
    go true p q = p tt
    go false p q = absurd (native.Mathlib.Nat.not-le_of_lt (pow-lt (q tt)) h)

-- what `fits` says of a value that is not zero
record Held (f : Format) (m : ℕ) (e : ℤ) : Type 0 where
  digits : m < 2 ^ prec f
  fine : down e ≤ 2 ^ low f
  below : m * up e < 2 ^ suc (emax f) * down e

held : (f : Format) (s : Bool) (m : ℕ) (e : ℤ) → T (fits f (fin s (suc m) e)) → Held f (suc m) e
unfolding fits
held f s m e h =
    let A = eqb (suc m % 2) 1 in
    let B = ltb (suc m) (2 ^ prec f) in
    let C = leb (down e) (2 ^ low f) in
    let D = ltb (suc m * up e) (2 ^ suc (emax f) * down e) in
    record {
      digits = ltb→lt (suc m) (2 ^ prec f) (and_r A B (and_l (A && B) C (and_l (A && B && C) D h)));
      fine = leb→le (down e) (2 ^ low f) (and_r (A && B) C (and_l (A && B && C) D h));
      below = ltb→lt (suc m * up e) (2 ^ suc (emax f) * down e) (and_r (A && B && C) D h);
    }

-- w / c < 2 ^ (emax + 1), in units of the smallest value
in-units : (f : Format) (w a c : ℕ) → 0 < c → w < 2 ^ suc (emax f) * c → w * 2 ^ low f ≡ a * c → a < 2 ^ (low f + suc (emax f))
in-units f w a c C h e =
    lt_of_mul-lt-mul_right c
    (subst₂ (λ (x y : ℕ). x < y) e
    (mul_right_comm (2 ^ suc (emax f)) c (2 ^ low f) ∙ ap (λ (z : ℕ). z * c) (mul_comm (2 ^ suc (emax f)) (2 ^ low f) ∙ sym (pow-add 2 (low f) (suc (emax f)))))
    (mul-lt-mul_of_pos_right h (pow_pos (low f))))

at-pos : (f : Format) (m k : ℕ) → m * up (pos k) * 2 ^ low f ≡ m * 2 ^ (k + low f) * down (pos k)
at-pos f m k = mul_assoc m (2 ^ k) (2 ^ low f) ∙ ap (λ (z : ℕ). m * z) (sym (pow-add 2 k (low f))) ∙ sym (mul-one (m * 2 ^ (k + low f)))

at-negsuc : (f : Format) (m k : ℕ) → down (negsuc k) ≤ 2 ^ low f → m * up (negsuc k) * 2 ^ low f ≡ m * 2 ^ (low f - suc k) * down (negsuc k)
at-negsuc f m k h =
    let back : low f - suc k + suc k ≡ low f = gap (low f) (suc k) (pow_le_back (suc k) (low f) h) in
    ap (λ (z : ℕ). z * 2 ^ low f) (mul-one m)
    ∙ ap (λ (z : ℕ). m * 2 ^ z) (sym back)
    ∙ ap (λ (z : ℕ). m * z) (pow-add 2 (low f - suc k) (suc k))
    ∙ sym (mul_assoc m (2 ^ (low f - suc k)) (2 ^ suc k))
  where
    gap : (l k : ℕ) → k ≤ l → l - k + k ≡ l
    gap l k h = omega arith

grid : (f : Format) (s : Bool) (m : ℕ) (e : ℤ) → T (fits f (fin s m e)) → Grid f m e
grid f s zero e h = record {
  small = pow_pos (prec f);
  at = 0;
  is = simp zero-mul;
  under = subst (λ (z : ℕ). z < 2 ^ (low f + suc (emax f))) (sym (zero-mul (2 ^ 0))) (pow_pos (low f + suc (emax f)));
}
grid f s (suc m) (pos k) h =
    let p = held f s m (pos k) h in
    record {
      small = p.digits;
      at = k + low f;
      is = at-pos f (suc m) k;
      under = in-units f (suc m * up (pos k)) (suc m * 2 ^ (k + low f)) (down (pos k)) (down_pos (pos k)) p.below (at-pos f (suc m) k);
    }
grid f s (suc m) (negsuc k) h =
    let p = held f s m (negsuc k) h in
    let i = at-negsuc f (suc m) k p.fine in
    record {
      small = p.digits;
      at = low f - suc k;
      is = i;
      under = in-units f (suc m * up (negsuc k)) (suc m * 2 ^ (low f - suc k)) (down (negsuc k)) (down_pos (negsuc k)) p.below i;
    }

-- two costs that equal one fraction are each at most the other
value-le : (x : Float) (m : ℕ) (e : ℤ) → HasValue x false (m * up e) (down e) → T (le x (fin false m e)) × T (le (fin false m e) x)
value-le x m e v = (
  le_of_values x (fin false m e) (m * up e) (down e) (m * up e) (down e) (down_pos e) (down_pos e) v (refl, refl) (Nat.le_refl (m * up e * down e)),
  le_of_values (fin false m e) x (m * up e) (down e) (m * up e) (down e) (down_pos e) (down_pos e) (refl, refl) v (Nat.le_refl (m * up e * down e)),
)

pub round-back : (f : Format) (m : ℕ) (e : ℤ) → T (fits f (fin false m e)) → round f false (m * up e) (down e) ≡ fin false m e
round-back f m e h =
    let g = grid f false m e h in
    let r = round f false (m * up e) (down e) in
    let b = value-le r m e (round_exact f false (m * up e) (down e) m g.at (down_pos e) g.small g.under g.is) in
    Order.le_antisymm f r (fin false m e) (round-cost f (m * up e) (down e)) (viewed (at-fin m e)) (round-fits f false (m * up e) (down e)) h b.0 b.1

-- ---- nothing added
sum-zero : (w c : ℕ) → w * 1 + 0 * 1 * c ≡ w
sum-zero w c = let z : 0 * 1 * c ≡ 0 = zero-mul c in omega arith

pub add-zero : (f : Format) (x : Float) → T (cost x) → T (fits f x) → add f x (fin false 0 (pos 0)) ≡ x
unfolding add
add-zero f x a = go (view x a)
  where
    go : {x : Float} → Cost x → T (fits f x) → add f x (fin false 0 (pos 0)) ≡ x
    go at-inf h = refl
    go (at-fin m e) h = ap₂ (round f false) (sum-zero (m * up e) (down e)) (mul-one (down e)) ∙ round-back f m e h

pub zero-le-cost : (x : Float) → T (cost x) → T (le (fin false 0 (pos 0)) x)
unfolding le
zero-le-cost x a = go (view x a)
  where
    go : {x : Float} → Cost x → T (le (fin false 0 (pos 0)) x)
    go at-inf = tt
    go (at-fin m e) = Order.cross→le 0 (pos 0) m e (let z : 0 * 1 * down e ≡ 0 = zero-mul (down e) in omega arith)

-- a sum is at least its first term
pub le-add : (f : Format) (x y : Float) → T (cost x) → T (cost y) → T (fits f x) → T (le x (add f x y))
le-add f x y a b h =
    subst (λ (z : Float). T (le z (add f x y))) (add-zero f x a h) (add-mono-right f x (fin false 0 (pos 0)) y a (viewed (at-fin 0 (pos 0))) b (zero-le-cost y b))
