-- No overflow, with no error analysis. A bound of a * 2 ^ j of the format's smallest values, with a of no more digits than the format keeps, is itself a value of the format,
-- so rounding what lies under it stays under it: bounds a and b at one j give a + b for the sum. Assumes nothing.
use mathlib.Core.Path.{◌≡◌, refl, sym, ap, ◌∙◌, subst}
use Prim.Native.Nat.{ℕ, zero, suc, ◌+◌, ◌-◌, ◌*◌, ◌^◌, ◌≤◌, ◌<◌}
use native.Mathlib.Nat.{le_of_eq, mul_comm, mul_assoc, mul_left_comm, add-mul, mul-pos, mul-le-mul_right, mul-le-mul, le_of_mul-le-mul_right}
use native.Mathlib.Nat as Nat
use native.Mathlib.Omega.{arith}
use mathlib.Core.Bool.{Bool, true, false, not, ◌&&◌, cond, beq}
use lib.Dec.{T, ltb, leb→le, le→leb}
use lib.Pow.{pow-add, pow_pos}
use lib.Ieee.{Float, nan, inf, fin, Format, prec, emax, low, up, down, odd, units, round, sum, add, neg, sub, mul, le, unlike}
use lib.Ieee.Fits.{down_pos, round_is, and_i, and_l, and_r}
use lib.Ieee.Exact.{HasValue, round_exact}
use lib.Ieee.Order.{drop, kept, round_mono}
use lib.Ieee.Positive.{positive, through}
use lib.Ieee.Scale.{finite, overflow}
use Rattle.costs.specs.Cost.{cost, bounded, capped}
use Rattle.costs.proofs.View.{Cost, at-inf, at-fin, view}
use Rattle.costs.proofs.Order as Order
use Rattle.costs.proofs.Sum.{round-cost, add-cost, finite-terms}
use Rattle.costs.proofs.Product.{mul-cost, mul-inf}

-- ---- a bound and the order
pub bounded-finite : (f : Format) (a j : ℕ) (x : Float) → T (bounded f a j x) → T (finite x)
unfolding bounded
bounded-finite f a j nan h = h
bounded-finite f a j (inf s) h = h
bounded-finite f a j (fin s m e) h = tt

-- a larger bound
pub bounded-more : (f : Format) (a j b k : ℕ) (x : Float) → a * 2 ^ j ≤ b * 2 ^ k → T (bounded f a j x) → T (bounded f b k x)
unfolding bounded
bounded-more f a j b k nan l h = h
bounded-more f a j b k (inf s) l h = h
bounded-more f a j b k (fin s m e) l h =
    le→leb (m * up e * 2 ^ low f) (b * 2 ^ k * down e) (Nat.le_trans (leb→le (m * up e * 2 ^ low f) (a * 2 ^ j * down e) h) (mul-le-mul_right (down e) l))

-- what is at most a bounded cost is bounded
pub bounded-le : (f : Format) (a j : ℕ) (x y : Float) → T (cost x) → T (cost y) → T (le x y) → T (bounded f a j y) → T (bounded f a j x)
unfolding bounded le
bounded-le f a j x y c d = go (view x c) (view y d)
  where
    go : {x y : Float} → Cost x → Cost y → T (le x y) → T (bounded f a j y) → T (bounded f a j x)
    go c at-inf h k = absurd k
    go at-inf (at-fin n d) h k = absurd h
    go (at-fin m e) (at-fin n d) h k =
        le→leb (m * up e * 2 ^ low f) (a * 2 ^ j * down e)
        (through (m * up e) (n * up d) (a * 2 ^ j) (down e) (down d) (2 ^ low f) (down_pos d) (Order.le→cross m e n d h) (leb→le (n * up d * 2 ^ low f) (a * 2 ^ j * down d) k))

-- ---- rounding stays under a bound that the format holds
-- the sign does not count
units-sign : (f : Format) (a j : ℕ) (s : Bool) (q k : ℕ) → bounded f a j (units f s q k) ≡ bounded f a j (units f false q k)
unfolding units bounded
units-sign f a j s q k = go q (ltb (q * 2 ^ k) (2 ^ (low f + suc (emax f))))
  where
    go : (q : ℕ) (b : Bool) → bounded f a j (cond b (odd (suc (prec f)) s q k (low f)) (inf s)) ≡ bounded f a j (cond b (odd (suc (prec f)) false q k (low f)) (inf false))
    go zero true = refl
    go (suc q) true = refl
    go zero false = refl
    go (suc q) false = refl

round-sign : (f : Format) (a j : ℕ) (s : Bool) (num den : ℕ) → bounded f a j (round f s num den) ≡ bounded f a j (round f false num den)
round-sign f a j s num den =
    let q = kept (prec f) (num * 2 ^ low f) den in
    let k = drop (prec f) (num * 2 ^ low f) den in
    ap (bounded f a j) (round_is f s num den) ∙ units-sign f a j s q k ∙ sym (ap (bounded f a j) (round_is f false num den))

value-bounded : (f : Format) (a j : ℕ) (x : Float) → HasValue x false (a * 2 ^ j) (2 ^ low f) → T (bounded f a j x)
unfolding bounded
value-bounded f a j nan v = absurd v
value-bounded f a j (inf s) v = absurd v
value-bounded f a j (fin s m e) v = le→leb (m * up e * 2 ^ low f) (a * 2 ^ j * down e) (le_of_eq v.1)

pub round-bounded : (f : Format) (s : Bool) (num den a j : ℕ) → 0 < den → a < 2 ^ prec f → a * 2 ^ j < overflow f → num * 2 ^ low f ≤ a * 2 ^ j * den → T (bounded f a j (round f s num den))
round-bounded f s num den a j D small fine h =
    let top = round f false (a * 2 ^ j) (2 ^ low f) in
    subst (λ (b : Bool). T b) (sym (round-sign f a j s num den))
    (bounded-le f a j (round f false num den) top (round-cost f num den) (round-cost f (a * 2 ^ j) (2 ^ low f))
    (round_mono f num den (a * 2 ^ j) (2 ^ low f) D (pow_pos (low f)) h)
    (value-bounded f a j top (round_exact f false (a * 2 ^ j) (2 ^ low f) a j (pow_pos (low f)) small fine refl)))

-- ---- sums and differences, whatever the signs
-- A / p ≤ a and B / q ≤ b, in units
sum-under : (A p B q l a b t : ℕ) → A * l ≤ a * t * p → B * l ≤ b * t * q → (A * q + B * p) * l ≤ (a + b) * t * (p * q)
sum-under A p B q l a b t h k =
    let one : A * q * l ≤ a * t * (p * q) = simp (mul_assoc, mul_comm, mul_left_comm) (simp (mul_assoc, mul_comm, mul_left_comm) at (mul-le-mul_right q h)) in
    let two : B * p * l ≤ b * t * (p * q) = simp (mul_assoc, mul_comm, mul_left_comm) (simp (mul_assoc, mul_comm, mul_left_comm) at (mul-le-mul_right p k)) in
    let l' : (A * q + B * p) * l ≡ A * q * l + B * p * l = add-mul (A * q) (B * p) l in
    let u : (a + b) * t * (p * q) ≡ a * t * (p * q) + b * t * (p * q) = ap (λ (z : ℕ). z * (p * q)) (add-mul a b t) ∙ add-mul (a * t) (b * t) (p * q) in
    omega arith

sum-bounded : (f : Format) (s t : Bool) (A B c a j : ℕ) → 0 < c → a < 2 ^ prec f → a * 2 ^ j < overflow f → (A + B) * 2 ^ low f ≤ a * 2 ^ j * c → T (bounded f a j (sum f s A t B c))
unfolding sum
sum-bounded f s t A B c a j C small fine h = go (beq s t) (ltb A B)
  where
    part : (n : ℕ) → n ≤ A + B → n * 2 ^ low f ≤ a * 2 ^ j * c
    part n l = Nat.le_trans (mul-le-mul_right (2 ^ low f) l) h

    less : (x y : ℕ) → x - y ≤ x + y
    less x y = omega arith

    less' : (x y : ℕ) → x - y ≤ y + x
    less' x y = omega arith

    go : (p q : Bool) → T (bounded f a j (cond p (round f s (A + B) c) (cond q (round f t (B - A) c) (round f (s && ltb B A) (A - B) c))))
    go true q = round-bounded f s (A + B) c a j C small fine h
    go false true = round-bounded f t (B - A) c a j C small fine (part (B - A) (less' B A))
    go false false = round-bounded f (s && ltb B A) (A - B) c a j C small fine (part (A - B) (less A B))

pub add-bounded : (f : Format) (a b j : ℕ) (x y : Float) → a + b < 2 ^ prec f → (a + b) * 2 ^ j < overflow f → T (bounded f a j x) → T (bounded f b j y) → T (bounded f (a + b) j (add f x y))
unfolding bounded add
add-bounded f a b j nan y small fine h k = absurd h
add-bounded f a b j (inf s) y small fine h k = absurd h
add-bounded f a b j (fin s m e) nan small fine h k = absurd k
add-bounded f a b j (fin s m e) (inf t) small fine h k = absurd k
add-bounded f a b j (fin s m e) (fin t n d) small fine h k =
    sum-bounded f s t (m * up e * down d) (n * up d * down e) (down e * down d) (a + b) j (mul-pos (down_pos e) (down_pos d)) small fine
    (sum-under (m * up e) (down e) (n * up d) (down d) (2 ^ low f) a b (2 ^ j) (leb→le (m * up e * 2 ^ low f) (a * 2 ^ j * down e) h) (leb→le (n * up d * 2 ^ low f) (b * 2 ^ j * down d) k))

pub neg-bounded : (f : Format) (a j : ℕ) (x : Float) → T (bounded f a j x) → T (bounded f a j (neg x))
unfolding bounded neg
neg-bounded f a j nan h = h
neg-bounded f a j (inf s) h = h
neg-bounded f a j (fin s m e) h = h

pub sub-bounded : (f : Format) (a b j : ℕ) (x y : Float) → a + b < 2 ^ prec f → (a + b) * 2 ^ j < overflow f → T (bounded f a j x) → T (bounded f b j y) → T (bounded f (a + b) j (sub f x y))
unfolding sub
sub-bounded f a b j x y small fine h k = add-bounded f a b j x (neg y) small fine h (neg-bounded f b j y k)

-- ---- products: the bounds' product, in units
product-under : (A p B q l a b i j k L : ℕ) → l ≡ 2 ^ L → j + k ≡ L + i → A * l ≤ a * 2 ^ j * p → B * l ≤ b * 2 ^ k * q → A * B * l ≤ a * b * 2 ^ i * (p * q)
product-under A p B q l a b i j k L e g h w =
    let both : A * l * (B * l) ≤ a * 2 ^ j * p * (b * 2 ^ k * q) = mul-le-mul h w in
    let pw : 2 ^ j * 2 ^ k ≡ l * 2 ^ i = sym (pow-add 2 j k) ∙ ap (λ (z : ℕ). 2 ^ z) g ∙ pow-add 2 L i ∙ ap (λ (z : ℕ). z * 2 ^ i) (sym e) in
    let r : a * 2 ^ j * p * (b * 2 ^ k * q) ≡ a * b * (p * q) * (2 ^ j * 2 ^ k) = simp (mul_assoc, mul_comm, mul_left_comm) in
    let s : a * b * (p * q) * (l * 2 ^ i) ≡ a * b * 2 ^ i * (p * q) * l = simp (mul_assoc, mul_comm, mul_left_comm) in
    let t : A * B * l * l ≡ A * l * (B * l) = simp (mul_assoc, mul_left_comm) in
    le_of_mul-le-mul_right (Nat.le_trans (le_of_eq t) (Nat.le_trans both (le_of_eq (r ∙ ap (λ (z : ℕ). a * b * (p * q) * z) pw ∙ s)))) (subst (λ (z : ℕ). 0 < z) (sym e) (pow_pos L))

pub mul-bounded : (f : Format) (a j b k i : ℕ) (x y : Float) → j + k ≡ low f + i → a * b < 2 ^ prec f → a * b * 2 ^ i < overflow f → T (bounded f a j x) → T (bounded f b k y)
    → T (bounded f (a * b) i (mul f x y))
unfolding bounded mul
mul-bounded f a j b k i nan y g small fine h w = absurd h
mul-bounded f a j b k i (inf s) y g small fine h w = absurd h
mul-bounded f a j b k i (fin s m e) nan g small fine h w = absurd w
mul-bounded f a j b k i (fin s m e) (inf t) g small fine h w = absurd w
mul-bounded f a j b k i (fin s m e) (fin t n d) g small fine h w =
    round-bounded f (unlike s t) (m * up e * (n * up d)) (down e * down d) (a * b) i (mul-pos (down_pos e) (down_pos d)) small fine
    (product-under (m * up e) (down e) (n * up d) (down d) (2 ^ low f) a b i j k (low f) refl g (leb→le (m * up e * 2 ^ low f) (a * 2 ^ j * down e) h) (leb→le (n * up d * 2 ^ low f) (b * 2 ^ k * down d) w))

-- ---- costs that are infinite or bounded
pub capped-cost : (f : Format) (a j : ℕ) (x : Float) → T (capped f a j x) → T (cost x)
unfolding capped cost
capped-cost f a j nan h = h
capped-cost f a j (inf s) h = h
capped-cost f a j (fin s m e) h = and_l (not s) (bounded f a j (fin s m e)) h

pub capped-bounded : (f : Format) (a j : ℕ) (x : Float) → T (capped f a j x) → T (finite x) → T (bounded f a j x)
unfolding capped
capped-bounded f a j nan h k = absurd h
capped-bounded f a j (inf s) h k = absurd k
capped-bounded f a j (fin s m e) h k = and_r (not s) (bounded f a j (fin s m e)) h

pub bounded-capped : (f : Format) (a j : ℕ) (x : Float) → T (cost x) → (T (finite x) → T (bounded f a j x)) → T (capped f a j x)
unfolding capped cost
bounded-capped f a j nan c h = c
bounded-capped f a j (inf s) c h = c
bounded-capped f a j (fin s m e) c h = and_i (not s) (bounded f a j (fin s m e)) c (h tt)

pub capped-more : (f : Format) (a j b k : ℕ) (x : Float) → a * 2 ^ j ≤ b * 2 ^ k → T (capped f a j x) → T (capped f b k x)
capped-more f a j b k x l h = bounded-capped f b k x (capped-cost f a j x h) (λ (t : T (finite x)). bounded-more f a j b k x l (capped-bounded f a j x h t))

-- the sum of two such costs is one, and it is finite where both are
pub add-capped : (f : Format) (a b j : ℕ) (x y : Float) → a + b < 2 ^ prec f → (a + b) * 2 ^ j < overflow f → T (capped f a j x) → T (capped f b j y) → T (capped f (a + b) j (add f x y))
add-capped f a b j x y small fine h k =
    let c = capped-cost f a j x h in
    let d = capped-cost f b j y k in
    bounded-capped f (a + b) j (add f x y) (add-cost f x y c d)
    (λ (t : T (finite (add f x y))).
    let p = finite-terms f x y c d t in
    add-bounded f a b j x y small fine (capped-bounded f a j x h p.0) (capped-bounded f b j y k p.1))

pub add-finite : (f : Format) (a b j : ℕ) (x y : Float) → a + b < 2 ^ prec f → (a + b) * 2 ^ j < overflow f → T (capped f a j x) → T (capped f b j y) → T (finite x) → T (finite y) → T (finite (add f x y))
add-finite f a b j x y small fine h k p q =
    bounded-finite f (a + b) j (add f x y) (add-bounded f a b j x y small fine (capped-bounded f a j x h p) (capped-bounded f b j y k q))

-- so is a bounded factor times such a cost
pub finite-factor : (f : Format) (x y : Float) → T (positive x) → T (cost y) → T (finite (mul f x y)) → T (finite y)
finite-factor f x y p d = go (view y d)
  where
    go : {y : Float} → Cost y → T (finite (mul f x y)) → T (finite y)
    go at-inf t = absurd (subst (λ (z : Float). T (finite z)) (mul-inf f x p) t)
    go (at-fin m e) t = tt

pub mul-capped : (f : Format) (a j b k i : ℕ) (x y : Float) → j + k ≡ low f + i → a * b < 2 ^ prec f → a * b * 2 ^ i < overflow f → T (positive x) → T (bounded f a j x) → T (capped f b k y)
    → T (capped f (a * b) i (mul f x y))
mul-capped f a j b k i x y g small fine p h w =
    let d = capped-cost f b k y w in
    bounded-capped f (a * b) i (mul f x y) (mul-cost f x y p d)
    (λ (t : T (finite (mul f x y))). mul-bounded f a j b k i x y g small fine h (capped-bounded f b k y w (finite-factor f x y p d t)))

pub mul-finite : (f : Format) (a j b k i : ℕ) (x y : Float) → j + k ≡ low f + i → a * b < 2 ^ prec f → a * b * 2 ^ i < overflow f → T (bounded f a j x) → T (capped f b k y) → T (finite y)
    → T (finite (mul f x y))
mul-finite f a j b k i x y g small fine h w t = bounded-finite f (a * b) i (mul f x y) (mul-bounded f a j b k i x y g small fine h (capped-bounded f b k y w t))
