-- The nearest whole number, by any fraction that the float equals, and from the fields of its bit pattern. Assumes nothing.
use mathlib.Core.Path.{◌≡◌, refl, sym, ap, ◌∙◌, subst}
use Prim.Native.Nat.{ℕ, zero, suc, ◌+◌, ◌-◌, ◌*◌, ◌/◌, ◌%◌, ◌^◌, ◌≤◌, ◌<◌}
use native.Mathlib.Nat.{le_trans, le_of_eq, le_of_lt, lt_of_lt_of_le, lt_of_le_of_lt, lt_of_not-le, not-le_of_lt, mul-one, mul_comm, mul_assoc, mul_right_comm, mul-mul-mul_comm, add-mul, mul-pos, mul-le-mul_right, mul-lt-mul_of_pos_right, le_of_mul-le-mul_right, div-eq_of_lt, div-div-eq-div-mul, mul-div-mul_left, add-div_right, div-le_self, div-lt_iff_lt-mul, pow-suc, mul-add}
use native.Mathlib.Omega.{arith}
use mathlib.Core.Bool.{Bool, true, false, not, ◌&&◌, ◌||◌, cond}
use lib.Dec.{T, leb, ltb, eqb, ltb→lt, eqb→eq, lit<, lit≤}
use lib.Pow.{pow-add, pow_pos, pow_mono}
use lib.IntN.{ℤ, pos, neg_ℤ, nat_abs, ◌-ℤ◌, +ℤ_idl}
use lib.Ieee.{Float, nan, inf, fin, binary32, up, down, odd, le, fits, is_nan, of_fields, of_bits, to_bits}
use lib.Ieee.Fits.{down_pos, and_l, and_r}
use lib.Ieee.Exact.{HasValue, odd_sign}
use lib.Ieee.Nearest.{div_same}
use lib.Ieee.Bits.{of_bits-to_bits}
use Rattle.candidates.specs.Nearest.{signed, nearest_of, is_ideal}

-- ---- by any fraction a / c that the float equals

cross : (x d a c : ℕ) → x * c ≡ a * d → (x * 2 + d) * (c * 2) ≡ (a * 2 + c) * (d * 2)
cross x d a c h =
    add-mul (x * 2) d (c * 2)
    ∙ ap (λ (z : ℕ). z + d * (c * 2)) (mul-mul-mul_comm x 2 c 2 ∙ ap (λ (z : ℕ). z * 4) h ∙ sym (mul-mul-mul_comm a 2 d 2))
    ∙ ap (λ (z : ℕ). a * 2 * (d * 2) + z) (sym (mul_assoc d c 2) ∙ ap (λ (z : ℕ). z * 2) (mul_comm d c) ∙ mul_assoc c d 2)
    ∙ sym (add-mul (a * 2) c (d * 2))

two_pos : 0 < 2
two_pos = lit< tt

pub nearest-at : (x : Float) (s : Bool) (a c : ℕ) → 0 < c → HasValue x s a c → nearest_of x ≡ signed s ((a * 2 + c) / (c * 2))
unfolding nearest_of
nearest-at nan s a c C h = absurd h
nearest-at (inf t) s a c C h = absurd h
nearest-at (fin t m e) s a c C h =
    ap (λ (b : Bool). signed b ((m * up e * 2 + down e) / (down e * 2))) h.0
    ∙ ap (signed s) (div_same (m * up e * 2 + down e) (down e * 2) (a * 2 + c) (c * 2) (mul-pos (down_pos e) two_pos) (mul-pos C two_pos) (cross (m * up e) (down e) a c h.1))

-- ---- an ideal's size

or-le : (a b : ℕ) (s : Bool) → T (ltb a b || (eqb a b && s)) → a ≤ b
or-le a b s = go (ltb a b) (eqb a b) (ltb→lt a b) (eqb→eq a b)
  where
    go : (x y : Bool) → (T x → a < b) → (T y → a ≡ b) → T (x || (y && s)) → a ≤ b
    go true y h k t = le_of_lt (h tt)
    go false true h k t = le_of_eq (k tt)
    go false false h k t = absurd t

or-ge : (a b : ℕ) (s : Bool) → T (ltb b a || (eqb a b && s)) → b ≤ a
or-ge a b s = go (ltb b a) (eqb a b) (ltb→lt b a) (eqb→eq a b)
  where
    go : (x y : Bool) → (T x → b < a) → (T y → a ≡ b) → T (x || (y && s)) → b ≤ a
    go true y h k t = le_of_lt (h tt)
    go false true h k t = le_of_eq (sym (k tt))
    go false false h k t = absurd t

own-size : (s : Bool) (m : ℕ) (e : ℤ) → T (is_ideal (fin s m e)) → m * up e ≤ 32767 * down e
unfolding is_ideal le
own-size true m e t =
    let h = or-ge (32767 * down e) (m * up e * 1) true (and_l (le (fin true 32767 (pos 0)) (fin true m e)) (le (fin true m e) (fin false 32767 (pos 0))) t) in
    subst (λ (z : ℕ). z ≤ 32767 * down e) (mul-one (m * up e)) h
own-size false m e t =
    let h = or-le (m * up e * 1) (32767 * down e) true (and_r (le (fin true 32767 (pos 0)) (fin false m e)) (le (fin false m e) (fin false 32767 (pos 0))) t) in
    subst (λ (z : ℕ). z ≤ 32767 * down e) (mul-one (m * up e)) h

pub ideal-size : (x : Float) (s : Bool) (a c : ℕ) → HasValue x s a c → T (is_ideal x) → a ≤ 32767 * c
ideal-size nan s a c h t = absurd h
ideal-size (inf b) s a c h t = absurd h
ideal-size (fin b m e) s a c h t =
    le_of_mul-le-mul_right
    (le_trans (le_of_eq (sym h.1))
    (le_trans (mul-le-mul_right c (own-size b m e t)) (le_of_eq (mul_right_comm 32767 (down e) c))))
    (down_pos e)

pub ideal-number : (x : Float) → T (is_ideal x) → T (not (is_nan x))
unfolding is_ideal le is_nan
ideal-number nan t = absurd t
ideal-number (inf s) t = tt
ideal-number (fin s m e) t = tt

-- ---- its rounding's size
whole_part : (a c : ℕ) → 0 < c → a ≤ 32767 * c → (a * 2 + c) / (c * 2) ≤ 32767
whole_part a c C h =
    let g : (a * 2 + c) / (c * 2) < 32768 = (div-lt_iff_lt-mul (mul-pos C two_pos)).1 (omega arith) in
    omega arith

abs-signed : (s : Bool) (n : ℕ) → nat_abs (signed s n) ≡ n
abs-signed true zero = refl
abs-signed true (suc n) = refl
abs-signed false n = refl

pub nearest_in : (x : Float) → T (is_ideal x) → nat_abs (nearest_of x) ≤ 32767
unfolding nearest_of
nearest_in nan t = lit≤ tt
nearest_in (inf s) t = lit≤ tt
nearest_in (fin s m e) t =
    subst (λ (z : ℕ). z ≤ 32767) (sym (abs-signed s ((m * up e * 2 + down e) / (down e * 2)))) (whole_part (m * up e) (down e) (down_pos e) (own-size s m e t))

-- ---- from the fields of the bit pattern: a sign s, an exponent's field x and digits t

-- the significand, its leading digit with it
abbrev digits : ℕ → ℕ → ℕ
digits zero t = t
digits (suc k) t = 8388608 + t

abbrev shift : ℕ → ℕ
shift zero = 0
shift (suc k) = k

no_nan : T (is_ideal nan) → ⊥
unfolding is_ideal le
no_nan t = t

no-inf : (b : Bool) → T (is_ideal (inf b)) → ⊥
unfolding is_ideal le
no-inf true t = t
no-inf false t = t

fields_value : (s : Bool) (x t : ℕ) → T (is_ideal (of_fields binary32 s x t)) → HasValue (of_fields binary32 s x t) s (digits x t * 2 ^ shift x) (2 ^ 149)
unfolding of_fields
fields_value s zero t = λ h. odd_sign 24 s t 0 149
fields_value s (suc k) t = λ (h : T (is_ideal (of_fields binary32 s (suc k) t))). go (eqb (suc k) 255) (eqb t 0) h
  where
    go : (a b : Bool) → T (is_ideal (cond a (cond b (inf s) nan) (odd 24 s (8388608 + t) k 149))) → HasValue (cond a (cond b (inf s) nan) (odd 24 s (8388608 + t) k 149)) s ((8388608 + t) * 2 ^ k) (2 ^ 149)
    go true true h = absurd (no-inf s h)
    go true false h = absurd (no_nan h)
    go false b h = odd_sign 24 s (8388608 + t) k 149

digits_lt : (x t : ℕ) → t < 8388608 → digits x t < 2 ^ 24
digits_lt zero t h = omega arith
digits_lt (suc k) t h = omega arith

double : (c : ℕ) → c * 2 ≡ c + c
double c = omega arith

-- below a half: 0
zero-part : (s : Bool) (a c : ℕ) → a * 2 < c → signed s ((a * 2 + c) / (c * 2)) ≡ pos 0
zero-part s a c h = ap (signed s) (div-eq_of_lt (less (a * 2) c h)) ∙ none s
  where
    less : (a c : ℕ) → a < c → a + c < c * 2
    less a c h = omega arith

    none : (s : Bool) → signed s 0 ≡ pos 0
    none true = refl
    none false = refl

shift-lt : (x : ℕ) → x < 126 → shift x + 25 ≤ 149
shift-lt zero h = omega arith
shift-lt (suc k) h = omega arith

fields-small : (s : Bool) (x t : ℕ) → t < 8388608 → x < 126 → T (is_ideal (of_fields binary32 s x t)) → nearest_of (of_fields binary32 s x t) ≡ pos 0
fields-small s x t h l i =
    let d = digits x t in
    let k = shift x in
    let a : d * 2 ^ k * 2 < 2 ^ 149 =
    lt_of_lt_of_le
    (mul-lt-mul_of_pos_right (mul-lt-mul_of_pos_right (digits_lt x t h) (pow_pos k)) two_pos)
    (le_trans (le_of_eq (mul_right_comm (2 ^ 24) (2 ^ k) 2 ∙ mul_comm (2 ^ 25) (2 ^ k) ∙ sym (pow-add 2 k 25))) (pow_mono (shift-lt x l))) in
    nearest-at (of_fields binary32 s x t) s (d * 2 ^ k) (2 ^ 149) (pow_pos 149) (fields_value s x t i) ∙ zero-part s (d * 2 ^ k) (2 ^ 149) a

-- an ideal's exponent
fields-under : (s : Bool) (x t : ℕ) → T (is_ideal (of_fields binary32 s x t)) → x < 142
fields-under s zero t i = lit< tt
fields-under s (suc k) t i =
    let h : (8388608 + t) * 2 ^ k ≤ 32767 * 2 ^ 149 = ideal-size (of_fields binary32 s (suc k) t) s ((8388608 + t) * 2 ^ k) (2 ^ 149) (fields_value s (suc k) t i) i in
    lt_of_not-le (λ (g : 142 ≤ suc k). not-le_of_lt (far k g) h)
  where
    lead : 8388608 ≤ 8388608 + t
    lead = omega arith

    down1 : (k : ℕ) → 142 ≤ suc k → 141 ≤ k
    down1 k g = omega arith

    far : (k : ℕ) → 142 ≤ suc k → 32767 * 2 ^ 149 < (8388608 + t) * 2 ^ k
    far k g =
        lt_of_lt_of_le (lit< {m = 32767 * 2 ^ 149} {n = 8388608 * 2 ^ 141} tt)
        (le_trans (le_of_eq (mul_comm 8388608 (2 ^ 141))) (le_trans (mul-le-mul_right 8388608 (pow_mono (down1 k g))) (le_trans (le_of_eq (mul_comm (2 ^ k) 8388608)) (mul-le-mul_right (2 ^ k) lead))))

-- d / h in units of which two are one: the whole part, a half added
halved : (d u h : ℕ) → 0 < u → 0 < h → (u * d + u * h) / (u * h * 2) ≡ (d / h + 1) / 2
halved d u h U H =
    ap (λ (z : ℕ). z / (u * h * 2)) (sym (mul-add u d h))
    ∙ ap (λ (z : ℕ). u * (d + h) / z) (mul_assoc u h 2)
    ∙ mul-div-mul_left (d + h) (h * 2) U
    ∙ sym (div-div-eq-div-mul (d + h) h 2)
    ∙ ap (λ (z : ℕ). z / 2) (add-div_right d H)

rest : (k : ℕ) → suc k < 142 → suc k + (149 - suc k) ≡ 149
rest k l = omega arith

fields-large : (s : Bool) (x t : ℕ) → 126 ≤ x → T (is_ideal (of_fields binary32 s x t)) → nearest_of (of_fields binary32 s x t) ≡ signed s (((8388608 + t) / 2 ^ (149 - x) + 1) / 2)
fields-large s zero t l i = absurd (none l)
  where
    none : 126 ≤ 0 → ⊥
    none l = omega arith
fields-large s (suc k) t l i =
    let d = 8388608 + t in
    let h = 149 - suc k in
    let whole : 2 ^ suc k * 2 ^ h ≡ 2 ^ 149 = sym (pow-add 2 (suc k) h) ∙ ap (λ (z : ℕ). 2 ^ z) (rest k (fields-under s (suc k) t i)) in
    let top : d * 2 ^ k * 2 ≡ 2 ^ suc k * d = mul_assoc d (2 ^ k) 2 ∙ ap (λ (z : ℕ). d * z) (sym (pow-suc 2 k)) ∙ mul_comm d (2 ^ suc k) in
    nearest-at (of_fields binary32 s (suc k) t) s (d * 2 ^ k) (2 ^ 149) (pow_pos 149) (fields_value s (suc k) t i)
    ∙ ap (λ (z : ℕ). signed s ((z + 2 ^ 149) / (2 ^ 149 * 2))) top
    ∙ ap (λ (z : ℕ). signed s ((2 ^ suc k * d + z) / (z * 2))) (sym whole)
    ∙ ap (signed s) (halved d (2 ^ suc k) (2 ^ h) (pow_pos (suc k)) (pow_pos h))

-- ---- from the bit pattern

abbrev pub exponent_of : ℕ → ℕ
exponent_of b = b % 2147483648 / 8388608

seen : (x : Float) → T (fits binary32 x) → of_fields binary32 (leb 2147483648 (to_bits binary32 x)) (exponent_of (to_bits binary32 x)) (to_bits binary32 x % 8388608) ≡ x
unfolding of_bits
seen x h = of_bits-to_bits binary32 x h

digits_mod : (b : ℕ) → b % 8388608 < 8388608
digits_mod b = omega arith

module _ (x : Float) (g : fits binary32 x ≡ true) (i : T (is_ideal x)) where
  h : T (fits binary32 x)
  h = subst T (sym g) tt

  same-ideal : T (is_ideal (of_fields binary32 (leb 2147483648 (to_bits binary32 x)) (exponent_of (to_bits binary32 x)) (to_bits binary32 x % 8388608)))
  same-ideal = subst (λ (z : Float). T (is_ideal z)) (sym (seen x h)) i

  pub bits-under : exponent_of (to_bits binary32 x) < 142
  bits-under = fields-under (leb 2147483648 (to_bits binary32 x)) (exponent_of (to_bits binary32 x)) (to_bits binary32 x % 8388608) same-ideal

  pub bits_small : exponent_of (to_bits binary32 x) < 126 → nearest_of x ≡ pos 0
  bits_small l =
      ap nearest_of (sym (seen x h))
      ∙ fields-small (leb 2147483648 (to_bits binary32 x)) (exponent_of (to_bits binary32 x)) (to_bits binary32 x % 8388608) (digits_mod (to_bits binary32 x)) l same-ideal

  pub bits-large : 126 ≤ exponent_of (to_bits binary32 x) → nearest_of x ≡ signed (leb 2147483648 (to_bits binary32 x)) (((8388608 + to_bits binary32 x % 8388608) / 2 ^ (149 - exponent_of (to_bits binary32 x)) + 1) / 2)
  bits-large l =
      ap nearest_of (sym (seen x h))
      ∙ fields-large (leb 2147483648 (to_bits binary32 x)) (exponent_of (to_bits binary32 x)) (to_bits binary32 x % 8388608) l same-ideal

-- ---- the code's own numbers

abbrev pub rounded_size : ℕ → ℕ
rounded_size b = ((8388608 + b % 8388608) / 2 ^ (149 - exponent_of b) + 1) / 2

pub halves_small : (b h : ℕ) → (8388608 + b % 8388608) / h < 16777216
halves_small b h = lt_of_le_of_lt (div-le_self (8388608 + b % 8388608) h) (omega arith)

pub rounded-small : (b : ℕ) → rounded_size b < 16777216
rounded-small b = let h = halves_small b (2 ^ (149 - exponent_of b)) in omega arith

pub minus_pos : (n : ℕ) → pos 0 -ℤ pos n ≡ neg_ℤ (pos n)
minus_pos n = +ℤ_idl (neg_ℤ (pos n))
