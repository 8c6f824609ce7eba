-- How far a rounded sum of costs lies from the exact one: by at most one part in 2 ^ prec of it. Whole multiples of the format's smallest value; a sum of few digits is exact. Assumes nothing.
use mathlib.Core.Path.{◌≡◌, refl, sym, ap, ◌∙◌, subst}
use Prim.Native.Nat.{ℕ, zero, suc, ◌+◌, ◌-◌, ◌*◌, ◌/◌, ◌%◌, ◌^◌, ◌≤◌, ◌<◌, compare, Ordering}
use native.Mathlib.Nat.{le_trans, le_of_eq, mul_comm, mul_assoc, mul_left_comm, mul_right_comm, add-mul, mul-pos, mul-one, one-mul, mul-le-mul_right, mul-div_cancel, div-add-mod', mod-lt, pow-suc, le_of_mul-le-mul_right}
use native.Mathlib.Omega.{arith}
use mathlib.Core.Bool.{Bool, true, false, not}
use lib.IntN.{ℤ}
use lib.Dec.{T, is_le, compare_is_eq, eqb, leb→le, nleb→lt, eqb→eq, eqb_refl}
use lib.Arith.{lt_of_le-ne}
use lib.Pow.{pow-add, pow_pos}
use lib.Ieee.{Float, nan, inf, fin, Format, prec, low, up, down, size, nearest, round, add, le, fits}
use lib.Ieee.Digits.{size_reaches}
use lib.Ieee.Fits.{down_pos}
use lib.Ieee.Exact.{HasValue}
use lib.Ieee.Nearest.{closest, closest_same}
use lib.Ieee.Order.{drop, kept}
use lib.Ieee.Scale.{finite, grid, overflow, round_val, round_under, round_same}
use Rattle.costs.specs.Cost.{cost}
use Rattle.exact.specs.Units.{in_units}
use Rattle.costs.proofs.View.{Cost, at-inf, at-fin, view}
use Rattle.costs.proofs.Sum.{add-fin, round-back, finite-terms}
use Rattle.costs.proofs.Order as Order

abbrev Cmp : Ordering → ℕ → ℕ → Type 0
Cmp Ordering.lt a b = a < b
Cmp Ordering.eq a b = a ≡ b
Cmp Ordering.gt a b = b < a

cmp : (a b : ℕ) → Cmp (compare a b) a b
cmp a b = go (compare a b) (leb→le a b) (nleb→lt a b) (eqb→eq a b) (λ (e : a ≡ b). subst (λ (x : ℕ). T (eqb a x)) e (eqb_refl a))
  where
    go : (o : Ordering) → (T (is_le o) → a ≤ b) → (T (not (is_le o)) → b < a) → (T (compare_is_eq o) → a ≡ b) → (a ≡ b → T (compare_is_eq o)) → Cmp o a b
    go Ordering.lt h k e n = lt_of_le-ne (h tt) n
    go Ordering.eq h k e n = e tt
    go Ordering.gt h k e n = k tt

-- ---- the nearest whole number is off by a half at most
half : (q r u : ℕ) (o : Ordering) → Cmp o (r * 2) u → r ≤ u → (2 * (nearest q o * u) ≤ 2 * (q * u + r) + u) × (2 * (q * u + r) ≤ 2 * (nearest q o * u) + u)
half q r u Ordering.lt x h = (omega arith, omega arith)
half q r u Ordering.eq x h =
    let parts : (q + q % 2) * u ≡ q * u + q % 2 * u = add-mul q (q % 2) u in
    let one : q % 2 * u ≤ 1 * u = mul-le-mul_right u (omega arith) in
    (omega arith, omega arith)
half q r u Ordering.gt x h =
    let parts : (q + 1) * u ≡ q * u + 1 * u = add-mul q 1 u in
    (omega arith, omega arith)

rest_le : (n u : ℕ) → 0 < u → n % u ≤ u
rest_le n u h = omega (arith, mod-lt n h)

closest-near : (n u : ℕ) → 0 < u → (2 * (closest n u * u) ≤ 2 * n + u) × (2 * n ≤ 2 * (closest n u * u) + u)
closest-near n u h =
    let e = div-add-mod' n u in
    let g = half (n / u) (n % u) u (compare (n % u * 2) u) (cmp (n % u * 2) u) (rest_le n u h) in
    (omega (arith, g.0), omega (arith, g.1))

-- ---- n units rounded to p digits
abbrev rounded : ℕ → ℕ → ℕ
rounded p n = closest n (2 ^ (size n - p)) * 2 ^ (size n - p)

pub rounded-near : (p n : ℕ) → (rounded p n * 2 ^ p ≤ n * 2 ^ p + n) × (n * 2 ^ p ≤ rounded p n * 2 ^ p + n)
rounded-near p n = go (size n - p) refl
  where
    go : (k : ℕ) → size n - p ≡ k → (closest n (2 ^ k) * 2 ^ k * 2 ^ p ≤ n * 2 ^ p + n) × (n * 2 ^ p ≤ closest n (2 ^ k) * 2 ^ k * 2 ^ p + n)
    go zero e =
        let g = closest-near n 1 (omega arith) in
        let same : closest n (2 ^ 0) * 2 ^ 0 ≡ n = omega (arith, g.0, g.1) in
        rw same (omega arith, omega arith)
    go (suc k) e =
        let big : 2 ^ (p + k) ≤ n = size_reaches n (p + k) (omega arith) in
        let split : 2 ^ (p + k) ≡ 2 ^ p * 2 ^ k = pow-add 2 p k in
        let twice : 2 ^ suc k ≡ 2 ^ k * 2 = pow-suc 2 k in
        let g = closest-near n (2 ^ suc k) (pow_pos (suc k)) in
        let B = 2 ^ p in
        let u = 2 ^ suc k in
        let R = closest n u * u in
        let unit : u * B ≤ 2 * n = omega (arith, ap (λ (z : ℕ). z * B) twice, mul_right_comm (2 ^ k) 2 B, mul_comm (2 ^ p) (2 ^ k)) in
        let up : 2 * (R * B) ≤ 2 * (n * B) + u * B = omega (arith, mul-le-mul_right B g.0, add-mul (2 * n) u B, mul_assoc 2 n B, mul_assoc 2 R B) in
        let down : 2 * (n * B) ≤ 2 * (R * B) + u * B = omega (arith, mul-le-mul_right B g.1, add-mul (2 * R) u B, mul_assoc 2 n B, mul_assoc 2 R B) in
        (omega arith, omega arith)

-- ---- the sum of two finite costs, in units of the format's smallest value
grid-is : (f : Format) (n : ℕ) → grid f n (2 ^ low f) ≡ rounded (prec f) n
grid-is f n =
    let l = 2 ^ low f in
    let whole : n * l / l ≡ n = mul-div_cancel n (pow_pos (low f)) in
    let k : drop (prec f) (n * l) l ≡ size n - prec f = ap (λ (z : ℕ). size z - prec f) whole in
    let j = size n - prec f in
    ap (λ (z : ℕ). closest (n * l) (l * 2 ^ z) * 2 ^ z) k
    ∙ ap (λ (z : ℕ). z * 2 ^ j) (closest_same (n * l) (l * 2 ^ j) n (2 ^ j) (mul-pos (pow_pos (low f)) (pow_pos j)) (pow_pos j) (mul_assoc n l (2 ^ j)))

cross : (A p B q l a b : ℕ) → A * l ≡ a * p → B * l ≡ b * q → (A * q + B * p) * l ≡ (a + b) * (p * q)
cross A p B q l a b h k =
    let one : A * q * l ≡ a * (p * q) = mul_right_comm A q l ∙ ap (λ (z : ℕ). z * q) h ∙ mul_assoc a p q in
    let two : B * p * l ≡ b * (p * q) = mul_right_comm B p l ∙ ap (λ (z : ℕ). z * p) k ∙ mul_assoc b q p ∙ ap (λ (z : ℕ). b * z) (mul_comm q p) in
    omega (arith, add-mul (A * q) (B * p) l, add-mul a b (p * q), one, two)

-- s is what a sum of n units is rounded to
pub record Near (p n s : ℕ) : Type 0 where
  pub over : s * 2 ^ p ≤ n * 2 ^ p + n
  pub under : n * 2 ^ p ≤ s * 2 ^ p + n

pub add-near : (f : Format) (x y : Float) (a b : ℕ) → T (cost x) → T (cost y) → HasValue x false a (2 ^ low f) → HasValue y false b (2 ^ low f) → T (finite (add f x y))
    → HasValue (add f x y) false (rounded (prec f) (a + b)) (2 ^ low f) × Near (prec f) (a + b) (rounded (prec f) (a + b))
add-near f x y a b c d = go (view x c) (view y d)
  where
    go : {x y : Float} → Cost x → Cost y → HasValue x false a (2 ^ low f) → HasValue y false b (2 ^ low f) → T (finite (add f x y))
        → HasValue (add f x y) false (rounded (prec f) (a + b)) (2 ^ low f) × Near (prec f) (a + b) (rounded (prec f) (a + b))
    go at-inf y h k t = absurd h
    go (at-fin m e) at-inf h k t = absurd k
    go (at-fin m e) (at-fin n d) h k t =
        let l = 2 ^ low f in
        let same : add f (fin false m e) (fin false n d) ≡ round f false (a + b) l =
        add-fin f m e n d ∙ round_same f false (m * up e * down d + n * up d * down e) (down e * down d) (a + b) l (mul-pos (down_pos e) (down_pos d)) (pow_pos (low f)) (cross (m * up e) (down e) (n * up d) (down d) l a b h.1 k.1) in
        let t' = subst (λ (z : Float). T (finite z)) same t in
        let v = round_val f (a + b) l (round_under f (a + b) l t') in
        let near = rounded-near (prec f) (a + b) in (
          subst (λ (z : Float). HasValue z false (rounded (prec f) (a + b)) l) (sym same) (subst (λ (z : ℕ). HasValue (round f false (a + b) l) false z l) (grid-is f (a + b)) v),
          record { over = near.0; under = near.1 },
        )

-- ---- a finite cost of the format, in units
pub own-units : (f : Format) (x : Float) → T (cost x) → T (finite x) → T (fits f x) → HasValue x false (in_units f x) (2 ^ low f)
unfolding in_units
own-units f x c = go (view x c)
  where
    whole : (m : ℕ) (e : ℤ) (g l : ℕ) → m * up e * l ≡ g * down e → m * up e * l ≡ m * up e * l / down e * down e
    whole m e g l h = h ∙ ap (λ (z : ℕ). z * down e) (sym (ap (λ (z : ℕ). z / down e) h ∙ mul-div_cancel g (down_pos e)))

    go : {x : Float} → Cost x → T (finite x) → T (fits f x) → HasValue x false (in_units f x) (2 ^ low f)
    go at-inf t h = absurd t
    go (at-fin m e) t h =
        let back = round-back f m e h in
        let v = round_val f (m * up e) (down e) (round_under f (m * up e) (down e) (subst (λ (z : Float). T (finite z)) (sym back) tt)) in
        let own : HasValue (fin false m e) false (grid f (m * up e) (down e)) (2 ^ low f) = subst (λ (z : Float). HasValue z false (grid f (m * up e) (down e)) (2 ^ low f)) back v in
        (refl, whole m e (grid f (m * up e) (down e)) (2 ^ low f) own.1)

-- a value in units is one number
units-unique : (f : Format) (x : Float) (a : ℕ) → HasValue x false a (2 ^ low f) → in_units f x ≡ a
unfolding in_units
units-unique f nan a h = absurd h
units-unique f (inf s) a h = absurd h
units-unique f (fin s m e) a h = ap (λ (z : ℕ). z / down e) h.1 ∙ mul-div_cancel a (down_pos e)

-- the sum's units are near the exact sum's
pub sum_near : (f : Format) (x y : Float) → T (cost x) → T (cost y) → T (fits f x) → T (fits f y) → T (finite (add f x y)) → Near (prec f) (in_units f x + in_units f y) (in_units f (add f x y))
sum_near f x y c d g h t =
    let both = finite-terms f x y c d t in
    let n = add-near f x y (in_units f x) (in_units f y) c d (own-units f x c both.0 g) (own-units f y d both.1 h) t in
    subst (Near (prec f) (in_units f x + in_units f y)) (sym (units-unique f (add f x y) _ n.0)) n.1

-- units go by the order
pub units-le : (f : Format) (x y : Float) → T (cost x) → T (cost y) → T (fits f x) → T (fits f y) → T (finite y) → T (le x y) → in_units f x ≤ in_units f y
units-le f x y c d g h t l =
    let s = Order.le-finite x y c d l t in
    go (view x c) (view y d) (own-units f x c s g) (own-units f y d t h) l
  where
    go : {x y : Float} → Cost x → Cost y → HasValue x false (in_units f x) (2 ^ low f) → HasValue y false (in_units f y) (2 ^ low f) → T (le x y) → in_units f x ≤ in_units f y
    go at-inf y h k l = absurd h
    go (at-fin m e) at-inf h k l = absurd k
    go (at-fin m e) (at-fin n d) h k l =
        let a = in_units f (fin false m e) in
        let b = in_units f (fin false n d) in
        let L = 2 ^ low f in
        let x = mul-le-mul_right L (Order.le→cross m e n d l) in
        let left : m * up e * down d * L ≡ a * (down e * down d) = mul_right_comm (m * up e) (down d) L ∙ ap (λ (z : ℕ). z * down d) h.1 ∙ mul_assoc a (down e) (down d) in
        let right : n * up d * down e * L ≡ b * (down e * down d) = mul_right_comm (n * up d) (down e) L ∙ ap (λ (z : ℕ). z * down e) k.1 ∙ mul_right_comm b (down d) (down e) ∙ mul_assoc b (down e) (down d) in
        le_of_mul-le-mul_right (omega (arith, x, left, right)) (mul-pos (down_pos e) (down_pos d))
