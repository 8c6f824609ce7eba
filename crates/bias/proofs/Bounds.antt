-- A biased level under a record that check 10 passes: it is finite and within ±32,768, and an f32 holds it. Assumes nothing.
use mathlib.Core.Path.{◌≡◌, refl, sym, ap, ◌∙◌, subst}
use Prim.Native.Nat.{ℕ, zero, suc, ◌*◌, ◌^◌, ◌≤◌, ◌<◌, zero-le, suc-le-suc}
use native.Mathlib.Nat.{le-suc, le_trans, le_of_eq, mul-one, mul_comm, mul-pos, mul-le-mul, mul-le-mul_right, lt_irrefl, lt_of_lt_of_le, one-mul, mul_right_comm, zero-mul}
use native.Mathlib.Omega.{arith}
use mathlib.Core.Bool.{Bool, true, false, not, ◌&&◌, ◌||◌, cond}
use lib.Dec.{T, ltb, eqb, leb→le, le→leb, ltb→lt, eqb→eq, lit<, lit≤}
use borrow.Author.Tests.{ne_eqb}
use lib.IntN.{ℤ, pos, negsuc}
use lib.Ieee.{Float, nan, inf, fin, binary32, up, down, unlike, round, neg, sub, div, le, eq, of_int, of_bits, fits, is_nan}
use lib.Ieee.Fits.{down_pos, and_l, and_r, neg-fits, sub-fits}
use lib.Ieee.Exact.{HasValue}
use lib.Ieee.Back.{round_whole}
use lib.Ieee.Scale.{finite}
use Rattle.costs.specs.Cost.{bounded}
use Rattle.costs.proofs.Bound.{bounded-finite, bounded-more, round-bounded, neg-bounded}
use Rattle.costs.proofs.Difference.{round-sign, diff-bounded}
use Rattle.bias.specs.declared.DequantBias.{DequantBias}
use Rattle.bias.specs.Level.{is_level, valid_bias, numerator0145, corrected, level_of, biased}

-- ---- check 10's parts

module _ (b : DequantBias) (v : T (valid_bias b)) where
  one-low : T (le (fin false 0 (pos 0)) b.one)
  unfolding valid_bias
  one-low = and_l (le (fin false 0 (pos 0)) b.one) (le b.one (fin false 1 (pos 1))) (and_l (le (fin false 0 (pos 0)) b.one && le b.one (fin false 1 (pos 1))) (eq b.numerator numerator0145) v)

  one-high : T (le b.one (fin false 1 (pos 1)))
  unfolding valid_bias
  one-high = and_r (le (fin false 0 (pos 0)) b.one) (le b.one (fin false 1 (pos 1))) (and_l (le (fin false 0 (pos 0)) b.one && le b.one (fin false 1 (pos 1))) (eq b.numerator numerator0145) v)

  same-numerator : T (eq b.numerator numerator0145)
  unfolding valid_bias
  same-numerator = and_r (le (fin false 0 (pos 0)) b.one && le b.one (fin false 1 (pos 1))) (eq b.numerator numerator0145) v

or-le : (a b : ℕ) (s : Bool) → T (ltb a b || (eqb a b && s)) → a ≤ b
or-le a b s = go (ltb a b) (eqb a b) (ltb→lt a b) (eqb→eq a b)
  where
    go : (x y : Bool) → (T x → a < b) → (T y → a ≡ b) → T (x || (y && s)) → a ≤ b
    go true y h k t = le_trans (le-suc a) (h tt)
    go false true h k t = le_of_eq (k tt)
    go false false h k t = absurd t

-- at most the whole number n in size
of_size : (s : Bool) (m : ℕ) (e : ℤ) (n : ℕ) → m * up e ≤ n * down e → T (bounded binary32 n 149 (fin s m e))
unfolding bounded
of_size s m e n h = le→leb (m * up e * 2 ^ 149) (n * 2 ^ 149 * down e) (le_trans (mul-le-mul_right (2 ^ 149) h) (le_of_eq (mul_right_comm n (down e) (2 ^ 149))))

one-bounded : (x : Float) → T (le (fin false 0 (pos 0)) x) → T (le x (fin false 1 (pos 1))) → T (bounded binary32 2 149 x)
unfolding le
one-bounded nan h k = absurd h
one-bounded (inf true) h k = absurd h
one-bounded (inf false) h k = absurd k
one-bounded (fin true m e) h k =
    let z : m * up e * 1 ≡ 0 * down e = sym (eqb→eq (0 * down e) (m * up e * 1) (and_l (eqb (0 * down e) (m * up e * 1)) (eqb (0 * down e) 0) h)) in
    of_size true m e 2 (le_trans (le_of_eq (sym (mul-one (m * up e)) ∙ z ∙ zero-mul (down e))) zero-le)
one-bounded (fin false m e) h k = of_size false m e 2 (le_trans (le_of_eq (sym (mul-one (m * up e)))) (or-le (m * up e * 1) (2 * down e) true k))

-- ---- numerator / q and q - numerator / q, for a q that is a whole number of one or more in size

unlike-false : (s : Bool) → unlike false s ≡ s
unlike-false true = refl
unlike-false false = refl

one-at-least : (n : ℕ) (d : ℤ) (k : ℕ) → n * up d * 1 ≡ suc k * down d → down d ≤ n * up d
one-at-least n d k h = le_trans (le_trans (le_of_eq (sym (one-mul (down d)))) (mul-le-mul_right (down d) (suc-le-suc zero-le))) (le_of_eq (sym h ∙ mul-one (n * up d)))

not-zero : (n : ℕ) (d : ℤ) → down d ≤ n * up d → eqb n 0 ≡ false
not-zero zero d h = absurd (lt_irrefl 0 (lt_of_lt_of_le (down_pos d) (le_trans h (le_of_eq (zero-mul (up d))))))
not-zero (suc n) d h = ne_eqb (suc n) 0 (none n)
  where
    none : (n : ℕ) → suc n ≡ 0 → ⊥
    none n e = omega arith

quotient : (m : ℕ) (e : ℤ) (t : Bool) (n : ℕ) (d : ℤ) → down d ≤ n * up d → div binary32 (fin false m e) (fin t n d) ≡ round binary32 t (m * up e * down d) (n * up d * down e)
unfolding div
quotient m e t n d h =
    ap (λ (b : Bool). cond b (cond (eqb m 0) nan (inf (unlike false t))) (round binary32 (unlike false t) (m * up e * down d) (n * up d * down e))) (not-zero n d h)
    ∙ ap (λ (b : Bool). round binary32 b (m * up e * down d) (n * up d * down e)) (unlike-false t)

under_one : (x p y q l : ℕ) → x ≤ p → q ≤ y → x * q * l ≤ 1 * l * (y * p)
under_one x p y q l h k = le_trans (mul-le-mul_right l (mul-le-mul h k)) (le_of_eq (mul_comm (p * y) l ∙ ap (λ (z : ℕ). l * z) (mul_comm p y) ∙ ap (λ (z : ℕ). z * (y * p)) (sym (one-mul l))))

positive-den : (n : ℕ) (d e : ℤ) → down d ≤ n * up d → 0 < n * up d * down e
positive-den n d e h = mul-pos (lt_of_lt_of_le (down_pos d) h) (down_pos e)

-- a numerator that is 0.145 is positive and below one
clash : (x y : ℕ) → x ≡ 9730785 * y → x ≡ 0 → 0 < y → ⊥
clash x y h k l = omega arith

numerator-small : (m : ℕ) (e : ℤ) (t : Bool) → T (eq (fin t m e) numerator0145) → (t ≡ false) × (m * up e ≤ down e)
unfolding eq numerator0145 of_bits
numerator-small m e true h =
    let x = m * up e * 2 ^ 26 in
    let y = 9730785 * down e in
    absurd (clash x (down e) (eqb→eq x y (and_l (eqb x y) (eqb x 0) h)) (eqb→eq x 0 (and_r (eqb x y) (eqb x 0) h)) (down_pos e))
numerator-small m e false h =
    let x = m * up e * 2 ^ 26 in
    let y = 9730785 * down e in
    (refl, part (m * up e) (down e) (eqb→eq x y (and_l (eqb x y) true h)))
  where
    part : (x y : ℕ) → x * 67108864 ≡ 9730785 * y → x ≤ y
    part x y h = omega arith

numerator-number : T (eq nan numerator0145) → ⊥
unfolding eq
numerator-number h = h

numerator-finite : (s : Bool) → T (eq (inf s) numerator0145) → ⊥
unfolding eq numerator0145 of_bits
numerator-finite s h = h

corrected-bounded : (x : Float) (t : Bool) (k : ℕ) (q : Float) → T (eq x numerator0145) → k < 32768 → HasValue q t (suc k) 1 → T (bounded binary32 32768 149 (corrected x q))
unfolding corrected
corrected-bounded nan t k q h l v = absurd (numerator-number h)
corrected-bounded (inf s) t k q h l v = absurd (numerator-finite s h)
corrected-bounded (fin s m e) t k nan h l v = absurd v
corrected-bounded (fin s m e) t k (inf u) h l v = absurd v
corrected-bounded (fin s m e) t k (fin u n d) h l v =
    let small = numerator-small m e s h in
    let big = one-at-least n d k v.1 in
    let quot : div binary32 (fin s m e) (fin u n d) ≡ round binary32 u (m * up e * down d) (n * up d * down e) = ap (λ (b : Bool). div binary32 (fin b m e) (fin u n d)) small.0 ∙ quotient m e u n d big in
    let below : T (bounded binary32 1 149 (round binary32 u (m * up e * down d) (n * up d * down e))) = round-bounded binary32 u (m * up e * down d) (n * up d * down e) 1 149 (positive-den n d e big) (lit< tt) (lit< {m = 2 ^ 149} {n = 2 ^ 277} tt) (under_one (m * up e) (down e) (n * up d) (down d) (2 ^ 149) small.1 big) in
    subst (λ (y : Float). T (bounded binary32 32768 149 (sub binary32 (fin u n d) y))) (sym quot)
    (diff-bounded binary32 32768 149 (fin u n d) (round binary32 u (m * up e * down d) (n * up d * down e)) (lit< tt) (lit< {m = 32768 * 2 ^ 149} {n = 2 ^ 277} tt) (sym (round-sign binary32 u (m * up e * down d) (n * up d * down e)))
    (of_size u n d 32768 (le_trans (le_of_eq (sym (mul-one (n * up d)) ∙ v.1)) (mul-le-mul_right (down d) l)))
    (bounded-more binary32 1 149 32768 149 (round binary32 u (m * up e * down d) (n * up d * down e)) (lit≤ tt) below))

-- ---- a biased level

-- a level's float is the level
whole-value : (s : Bool) (n : ℕ) → n ≤ 32768 → HasValue (round binary32 s n 1) s n 1
whole-value s n h = round_whole binary32 s n (le_trans h (lit≤ tt))

more : (x : Float) → T (bounded binary32 2 149 x) → T (bounded binary32 32768 149 x)
more x h = bounded-more binary32 2 149 32768 149 x (lit≤ tt) h

by_level : (one numerator : Float) (q : ℤ) → T (le (fin false 0 (pos 0)) one) → T (le one (fin false 1 (pos 1))) → T (eq numerator numerator0145) → T (is_level q)
    → T (bounded binary32 32768 149 (level_of one numerator q))
unfolding level_of of_int
by_level one numerator (pos zero) h k n l = of_size false 0 (pos 0) 32768 zero-le
by_level one numerator (pos (suc zero)) h k n l = more one (one-bounded one h k)
by_level one numerator (pos (suc (suc i))) h k n l =
    let g = leb→le (suc (suc i)) 32768 l in
    corrected-bounded numerator false (suc i) (round binary32 false (suc (suc i)) 1) n g (whole-value false (suc (suc i)) g)
by_level one numerator (negsuc zero) h k n l = more (neg one) (neg-bounded binary32 2 149 one (one-bounded one h k))
by_level one numerator (negsuc (suc i)) h k n l =
    let g = leb→le (suc (suc i)) 32768 l in
    corrected-bounded numerator true (suc i) (round binary32 true (suc (suc i)) 1) n g (whole-value true (suc (suc i)) g)

-- within ±32,768
pub level-bounded : (b : DequantBias) (q : ℤ) → T (valid_bias b) → T (is_level q) → T (bounded binary32 32768 149 (biased b q))
unfolding biased
level-bounded b q v l = by_level b.one b.numerator q (one-low b v) (one-high b v) (same-numerator b v) l

pub level-finite : (b : DequantBias) (q : ℤ) → T (valid_bias b) → T (is_level q) → T (finite (biased b q))
level-finite b q v l = bounded-finite binary32 32768 149 (biased b q) (level-bounded b q v l)

zero-fits : T (fits binary32 (fin false 0 (pos 0)))
unfolding fits
zero-fits = tt

-- an f32 holds it
pub level-fits : (b : DequantBias) (q : ℤ) → T (fits binary32 b.one) → T (fits binary32 (biased b q))
unfolding biased
level-fits b (pos zero) h = zero-fits
level-fits b (pos (suc zero)) h = h
level-fits b (pos (suc (suc n))) h = sub-fits binary32 (of_int binary32 (pos (suc (suc n)))) (div binary32 b.numerator (of_int binary32 (pos (suc (suc n)))))
level-fits b (negsuc zero) h = neg-fits binary32 b.one h
level-fits b (negsuc (suc n)) h = sub-fits binary32 (of_int binary32 (negsuc (suc n))) (div binary32 b.numerator (of_int binary32 (negsuc (suc n))))

finite_number : (x : Float) → T (finite x) → T (not (is_nan x))
unfolding is_nan
finite_number nan h = h
finite_number (inf s) h = tt
finite_number (fin s m e) h = tt

pub level-number : (b : DequantBias) (q : ℤ) → T (valid_bias b) → T (is_level q) → T (not (is_nan (biased b q)))
level-number b q v l = finite_number (biased b q) (level-finite b q v l)
