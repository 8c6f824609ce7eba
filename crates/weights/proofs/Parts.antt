-- Small floats: what a clamp to 0 to 1 gives, and sums that stay within 1 to 2. Assumes nothing.
use mathlib.Core.Path.{◌≡◌, refl, sym, ap, ◌∙◌, subst}
use mathlib.Core.Logic.{◌⊎◌, inl, inr}
use mathlib.Core.Bool.{Bool, true, false, not, ◌&&◌, ◌||◌, cond, true≢false}
use Prim.Native.Nat.{ℕ, ◌+◌, ◌-◌, ◌*◌, ◌^◌, ◌≤◌, ◌<◌, zero-le}
use native.Mathlib.Nat.{le_refl, le_trans, le_of_eq, le_of_lt, not-le_of_lt, mul-one, one-mul, zero-mul, mul_right_comm, mul-le-mul_right, le_of_mul-le-mul_right}
use native.Mathlib.Omega.{arith}
use borrow.Author.Tests.{ltb-false}
use lib.Dec.{T, ltb, eqb, leb→le, le→leb, ltb→lt, eqb→eq, lit<}
use lib.Pow.{pow_pos}
use lib.IntN.{ℤ, pos}
use lib.Ieee.{Float, nan, inf, fin, binary32, up, down, round, sum, add, mul, le, lt, is_nan}
use lib.Ieee.Fits.{down_pos, and_l}
use lib.Ieee.Order.{round_mono}
use lib.Ieee.Positive.{positive}
use lib.Ieee.Positive as Positive
use lib.Ieee.Scale.{finite}
use Rattle.costs.specs.Cost.{cost, bounded}
use Rattle.costs.proofs.Bound.{bounded-finite, mul-bounded}
use Rattle.costs.proofs.Product.{mul-finite-cost}
use Rattle.costs.proofs.Difference.{sign_of, round-sign}
use Rattle.weights.specs.Weights.{clamp, zero_f, one_f, two_f}

-- ---- at most a whole number n in size
pub of_size : (s : Bool) (m : ℕ) (e : ℤ) (n : ℕ) → m * up e ≤ n * down e → T (bounded binary32 n 149 (fin s m e))
unfolding bounded
of_size s m e n h = le→leb (m * up e * 2 ^ 149) (n * 2 ^ 149 * down e) (le_trans (mul-le-mul_right (2 ^ 149) h) (le_of_eq (mul_right_comm n (down e) (2 ^ 149))))

pub size_of : (s : Bool) (m : ℕ) (e : ℤ) (n : ℕ) → T (bounded binary32 n 149 (fin s m e)) → m * up e ≤ n * down e
unfolding bounded
size_of s m e n h = le_of_mul-le-mul_right (le_trans (leb→le (m * up e * 2 ^ 149) (n * 2 ^ 149 * down e) h) (le_of_eq (mul_right_comm n (2 ^ 149) (down e)))) (pow_pos 149)

or-le : (a b : ℕ) (s : Bool) → T (ltb a b || (eqb a b && s)) → a ≤ b
or-le a b s = go (ltb a b) (eqb a b) (ltb→lt a b) (eqb→eq a b)
  where
    go : (x y : Bool) → (T x → a < b) → (T y → a ≡ b) → T (x || (y && s)) → a ≤ b
    go true y h k t = le_of_lt (h tt)
    go false true h k t = le_of_eq (k tt)
    go false false h k t = absurd t

-- from 0 to n, -0.0 with it
pub range-bounded : (n : ℕ) (x : Float) → T (le zero_f x) → T (le x (fin false n (pos 0))) → T (bounded binary32 n 149 x)
unfolding le
range-bounded n nan h k = absurd h
range-bounded n (inf true) h k = absurd h
range-bounded n (inf false) h k = absurd k
range-bounded n (fin true m e) h k =
    let z : m * up e * 1 ≡ 0 * down e = sym (eqb→eq (0 * down e) (m * up e * 1) (and_l (eqb (0 * down e) (m * up e * 1)) (eqb (0 * down e) 0) h)) in
    of_size true m e n (le_trans (le_of_eq (sym (mul-one (m * up e)) ∙ z ∙ zero-mul (down e))) zero-le)
range-bounded n (fin false m e) h k =
    of_size false m e n (le_trans (le_of_eq (sym (mul-one (m * up e)))) (le_trans (or-le (m * up e * 1) (n * 1 * down e) true k) (le_of_eq (ap (λ (z : ℕ). z * down e) (mul-one n)))))

pub finite_number : (x : Float) → T (finite x) → T (not (is_nan x))
unfolding is_nan
finite_number nan h = h
finite_number (inf s) h = tt
finite_number (fin s m e) h = tt

-- ---- from 0 to 1, -0.0 with it
abbrev pub Small : Float → Type 0
Small x = (T (cost x) × T (bounded binary32 1 149 x)) ⊎ T (bounded binary32 0 149 x)

not-true : true ≡ false → ⊥
not-true e = true≢false e

pub clamp-small : (x : Float) → T (not (is_nan x)) → Small (clamp x zero_f one_f)
unfolding clamp lt is_nan cost
clamp-small x n = go x (lt x zero_f) (lt one_f x) refl refl n
  where
    go : (x : Float) (a b : Bool) → lt x zero_f ≡ a → lt one_f x ≡ b → T (not (is_nan x)) → Small (cond a zero_f (cond b one_f x))
    go x true b e f n = inr (of_size false 0 (pos 0) 0 zero-le)
    go x false true e f n = inl (tt, of_size false 1 (pos 0) 1 (le_refl 1))
    go nan false false e f n = absurd n
    go (inf true) false false e f n = absurd (not-true e)
    go (inf false) false false e f n = absurd (not-true f)
    go (fin true m d) false false e f n =
        let h : m * up d * 1 + 0 * down d ≤ 0 = ltb-false 0 (m * up d * 1 + 0 * down d) e in
        inr (of_size true m d 0 (nothing (m * up d) (down d) h))
      where
        nothing : (x y : ℕ) → x * 1 + 0 * y ≤ 0 → x ≤ 0 * y
        nothing x y h = omega arith
    go (fin false m d) false false e f n =
        let h : m * up d * 1 ≤ 1 * down d = ltb-false (1 * down d) (m * up d * 1) f in
        inl (tt, of_size false m d 1 (le_trans (le_of_eq (sym (mul-one (m * up d)))) h))

-- times a cost of 1 at most
pub small_mul : (x y : Float) → Small x → T (cost y) → T (bounded binary32 1 149 y) → Small (mul binary32 x y)
small_mul x y (inl h) c b =
    inl (mul-finite-cost binary32 x y h.0 c (bounded-finite binary32 1 149 x h.1) (bounded-finite binary32 1 149 y b), mul-bounded binary32 1 149 1 149 149 x y refl (lit< tt) (lit< {m = 2 ^ 149} {n = 2 ^ 277} tt) h.1 b)
small_mul x y (inr h) c b = inr (mul-bounded binary32 0 149 1 149 149 x y refl (lit< tt) (lit< {m = 0} {n = 2 ^ 277} tt) h b)

-- ---- a positive float from lo to hi
pub record Factor (lo hi x : Float) : Type 0 where
  pub positive : T (positive x)
  pub low : T (le lo x)
  pub high : T (le x hi)

pub factor : (lo hi x : Float) → T (positive lo) → T (positive hi) → T (le lo x) → T (le x hi) → Factor lo hi x
factor lo hi x p q h k = record { positive = Positive.between lo x hi p q h k; low = h; high = k }

-- a fraction from 1 to 2, rounded
one_is : one_f ≡ round binary32 false 1 1
unfolding round
one_is = refl

two_is : two_f ≡ round binary32 false 2 1
unfolding round
two_is = refl

rounded : (a c : ℕ) → 0 < c → c ≤ a → a ≤ 2 * c → Factor one_f two_f (round binary32 false a c)
rounded a c C h k =
    factor one_f two_f (round binary32 false a c) tt tt
    (subst (λ (x : Float). T (le x (round binary32 false a c))) (sym one_is) (round_mono binary32 1 1 a c (lit< tt) C (le_trans (le_of_eq (one-mul c)) (le_trans h (le_of_eq (sym (mul-one a)))))))
    (subst (λ (x : Float). T (le (round binary32 false a c) x)) (sym two_is) (round_mono binary32 a c 2 1 C (lit< tt) (le_trans (le_of_eq (mul-one a)) k)))

-- a - b, for b ≤ a
less : (a b c : ℕ) → b ≤ a → sum binary32 false a true b c ≡ round binary32 false (a - b) c
unfolding sum
less a b c h = go (ltb a b) (ltb→lt a b)
  where
    go : (t : Bool) → (T t → a < b) → cond t (round binary32 true (b - a) c) (round binary32 false (a - b) c) ≡ round binary32 false (a - b) c
    go true k = absurd (not-le_of_lt (k tt) h)
    go false k = refl

unit-pos : (d : ℤ) → 0 < 1 * down d
unit-pos d = subst (λ (z : ℕ). 0 < z) (sym (one-mul (down d))) (down_pos d)

-- 1 plus what is from 0 to 1
pub one-plus : (y : Float) → Small y → Factor one_f two_f (add binary32 one_f y)
unfolding add cost
one-plus nan (inl h) = absurd h.0
one-plus nan (inr h) = absurd (bounded-finite binary32 0 149 nan h)
one-plus (inf s) (inl h) = absurd (bounded-finite binary32 1 149 (inf s) h.1)
one-plus (inf s) (inr h) = absurd (bounded-finite binary32 0 149 (inf s) h)
one-plus (fin true n d) (inl h) = absurd h.0
one-plus (fin false n d) (inl h) =
    let k = size_of false n d 1 h.1 in
    rounded (1 * down d + n * up d * 1) (1 * down d) (unit-pos d) (omega arith) (omega arith)
one-plus (fin true n d) (inr h) =
    let k = size_of true n d 0 h in
    subst (λ (z : Float). Factor one_f two_f z) (sym (less (1 * down d) (n * up d * 1) (1 * down d) (omega arith))) (rounded (1 * down d - n * up d * 1) (1 * down d) (unit-pos d) (omega arith) (omega arith))
one-plus (fin false n d) (inr h) =
    let k = size_of false n d 0 h in
    rounded (1 * down d + n * up d * 1) (1 * down d) (unit-pos d) (omega arith) (omega arith)

-- 2 plus what is from -1 to 0
pub two-minus : (y : Float) → ((sign_of y ≡ true) × T (bounded binary32 1 149 y)) ⊎ T (bounded binary32 0 149 y) → Factor one_f two_f (add binary32 two_f y)
unfolding add
two-minus nan (inl h) = absurd (bounded-finite binary32 1 149 nan h.1)
two-minus nan (inr h) = absurd (bounded-finite binary32 0 149 nan h)
two-minus (inf s) (inl h) = absurd (bounded-finite binary32 1 149 (inf s) h.1)
two-minus (inf s) (inr h) = absurd (bounded-finite binary32 0 149 (inf s) h)
two-minus (fin true n d) (inl h) =
    let k = size_of true n d 1 h.1 in
    subst (λ (z : Float). Factor one_f two_f z) (sym (less (2 * down d) (n * up d * 1) (1 * down d) (omega arith))) (rounded (2 * down d - n * up d * 1) (1 * down d) (unit-pos d) (omega arith) (omega arith))
two-minus (fin false n d) (inl h) = absurd (not-true (sym h.0))
two-minus (fin true n d) (inr h) =
    let k = size_of true n d 0 h in
    subst (λ (z : Float). Factor one_f two_f z) (sym (less (2 * down d) (n * up d * 1) (1 * down d) (omega arith))) (rounded (2 * down d - n * up d * 1) (1 * down d) (unit-pos d) (omega arith) (omega arith))
two-minus (fin false n d) (inr h) =
    let k = size_of false n d 0 h in
    rounded (2 * down d + n * up d * 1) (1 * down d) (unit-pos d) (omega arith) (omega arith)

-- times -1
minus-bounded : T (bounded binary32 1 149 (fin true 1 (pos 0)))
minus-bounded = of_size true 1 (pos 0) 1 (le_refl 1)

minus-sign : (t : Float) → T (cost t) → T (finite t) → sign_of (mul binary32 t (fin true 1 (pos 0))) ≡ true
unfolding mul cost
minus-sign nan c h = absurd h
minus-sign (inf s) c h = absurd h
minus-sign (fin true m e) c h = absurd c
minus-sign (fin false m e) c h = round-sign binary32 true (m * up e * 1) (down e * 1)

pub small-minus : (t : Float) → Small t → ((sign_of (mul binary32 t (fin true 1 (pos 0))) ≡ true) × T (bounded binary32 1 149 (mul binary32 t (fin true 1 (pos 0))))) ⊎ T (bounded binary32 0 149 (mul binary32 t (fin true 1 (pos 0))))
small-minus t (inl h) =
    inl (minus-sign t h.0 (bounded-finite binary32 1 149 t h.1), mul-bounded binary32 1 149 1 149 149 t (fin true 1 (pos 0)) refl (lit< tt) (lit< {m = 2 ^ 149} {n = 2 ^ 277} tt) h.1 minus-bounded)
small-minus t (inr h) = inr (mul-bounded binary32 0 149 1 149 149 t (fin true 1 (pos 0)) refl (lit< tt) (lit< {m = 0} {n = 2 ^ 277} tt) h minus-bounded)

-- ---- products
pub mul-factor : (lo hi lo' hi' x y : Float) → T (positive lo) → T (positive hi) → T (positive lo') → T (positive hi') → T (positive (mul binary32 lo lo')) → T (positive (mul binary32 hi hi'))
    → Factor lo hi x → Factor lo' hi' y → Factor (mul binary32 lo lo') (mul binary32 hi hi') (mul binary32 x y)
mul-factor lo hi lo' hi' x y p q p' q' r s a b =
    factor (mul binary32 lo lo') (mul binary32 hi hi') (mul binary32 x y) r s
    (Positive.mul_mono binary32 lo x lo' y p a.positive p' b.positive a.low b.low)
    (Positive.mul_mono binary32 x hi y hi' a.positive q b.positive q' a.high b.high)
