-- Splitting and a decoder's reading of hybrid integers are inverse to one another.
-- Both sides have one common form (`Form`): a token with its extra bits and the value, taken apart into the same digits.
use Prim.Native.Nat.{ℕ, zero, suc, ◌+◌, ◌-◌, ◌*◌, ◌/◌, ◌%◌, ◌^◌, ◌≤◌, ◌<◌}
use mathlib.Core.Path.{◌≡◌, refl, ap, ap₂, ◌∙◌, subst, subst⁻¹, sym}
use mathlib.Core.Bool.{Bool, true, false, ◌&&◌, false≢true}
use native.Mathlib.Omega.{arith}
use native.Mathlib.Nat.{le_trans, lt_of_lt_of_le, lt_of_le_of_lt, mod-lt, div-eq_of_lt-le, mul-le-mul, mul-le-mul_right, lt_irrefl, le-add_right, le_of_eq, add_comm, one-mul, pow-succ', le-div_iff_mul-le}
use lib.Pow as Pow
use lib.Arith.{digits_lt}
use lib.Dec.{ltb, leb}
use lib.Pow.{pow_pos, pow_mono, pow-add, shr-shr, high, low}
use lib.Ieee.{size}
use lib.Ieee.Digits.{size-lt, size_reaches, size-le}
use borrow.Author.Tests.{lt-ltb, le-ltb, le-leb, ltb-true, ltb-false, leb-true, leb-false}
use Rattle.packing.specs.Hybrid.{extra_bits_read, read_hybrid, top_bit, symbol_of, extra_bits_of, extra_value_of, valid_config, is_split}

-- ---- the top one bit

pub top-spec : (v : ℕ) → 0 < v → (2 ^ top_bit v ≤ v) × (v < 2 ^ suc (top_bit v))
unfolding top_bit
top-spec v h = go (size v) refl
  where
    go : (k : ℕ) → size v ≡ k → (2 ^ (size v - 1) ≤ v) × (v < 2 ^ suc (size v - 1))
    go zero e = let small : v < 1 = rw e at (size-lt v) in absurd (omega arith)
    go (suc k) e =
        let d : size v - 1 ≡ k = omega arith in
        (size_reaches v (size v - 1) (omega arith), rw d (rw e at (size-lt v)))

pub top_unique : (v n : ℕ) → 2 ^ n ≤ v → v < 2 ^ suc n → top_bit v ≡ n
unfolding top_bit
top_unique v n lo hi = go (leb (size v) n) refl
  where
    go : (b : Bool) → leb (size v) n ≡ b → size v - 1 ≡ n
    go true e = absurd (lt_irrefl _ (lt_of_lt_of_le (size-lt v) (le_trans (pow_mono (leb-true _ _ e)) lo)))
    go false e = let h : n < size v = leb-false _ _ e in omega (arith, size-le v (suc n) hi)

pub lt-of-pow-lt : (i j : ℕ) → 2 ^ i < 2 ^ j → i < j
lt-of-pow-lt i j p = go (leb j i) refl
  where
    go : (b : Bool) → leb j i ≡ b → i < j
    go true e = absurd (lt_irrefl _ (lt_of_lt_of_le p (pow_mono (leb-true _ _ e))))
    go false e = leb-false _ _ e

-- ---- the common form

-- Of a token t ≥ 2 ^ s with extra bits b, and of the value v ≥ 2 ^ s: x is the m bits under the top bit, y the lowest l bits, and the top bit stands at s + j.
record Form (s m l t b v : ℕ) : Type 0 where
  j : ℕ
  x : ℕ
  y : ℕ
  x-small : x < 2 ^ m
  y-small : y < 2 ^ l
  b-small : b < 2 ^ (s - m - l + j)
  token : t ≡ ((2 ^ (s - m - l) + j) * 2 ^ m + x) * 2 ^ l + y
  value : v ≡ ((2 ^ m + x) * 2 ^ (s - m - l + j) + b) * 2 ^ l + y

power-of : (s m l : ℕ) → m + l ≤ s → 2 ^ s ≡ 2 ^ (s - m - l) * 2 ^ m * 2 ^ l
power-of s m l h =
    ap (λ (k : ℕ). 2 ^ k) (omega arith) ∙ pow-add 2 (s - m - l + m) l ∙ ap (λ (k : ℕ). k * 2 ^ l) (pow-add 2 (s - m - l) m)

symbol-sum : (P M L j x y : ℕ) → P * M * L + j * (M * L) + x * L + y ≡ ((P + j) * M + x) * L + y
symbol-sum P M L j x y = omega arith

token-rest : (P M L j x y : ℕ) → ((P + j) * M + x) * L + y - P * M * L ≡ (j * M + x) * L + y
token-rest P M L j x y = omega arith

-- the token, taken apart
module _ (q m l x y : ℕ) (hx : x < 2 ^ m) (hy : y < 2 ^ l) where
  token-low : ((q * 2 ^ m + x) * 2 ^ l + y) % 2 ^ l ≡ y
  token-low = low (q * 2 ^ m + x) l hy

  token-high : ((q * 2 ^ m + x) * 2 ^ l + y) / 2 ^ l ≡ q * 2 ^ m + x
  token-high = high (q * 2 ^ m + x) l hy

  token-mid : ((q * 2 ^ m + x) * 2 ^ l + y) / 2 ^ l % 2 ^ m ≡ x
  token-mid = ap (λ (k : ℕ). k % 2 ^ m) token-high ∙ low q m hx

  token-top : ((q * 2 ^ m + x) * 2 ^ l + y) / 2 ^ (m + l) ≡ q
  token-top =
      ap (λ (k : ℕ). ((q * 2 ^ m + x) * 2 ^ l + y) / 2 ^ k) (omega arith)
      ∙ sym (shr-shr ((q * 2 ^ m + x) * 2 ^ l + y) l m)
      ∙ ap (λ (k : ℕ). k / 2 ^ m) token-high
      ∙ high q m hx

-- the value, taken apart
module _ (e b m l x y : ℕ) (hb : b < 2 ^ e) (hx : x < 2 ^ m) (hy : y < 2 ^ l) where
  value_low : (((2 ^ m + x) * 2 ^ e + b) * 2 ^ l + y) % 2 ^ l ≡ y
  value_low = low ((2 ^ m + x) * 2 ^ e + b) l hy

  value-high : (((2 ^ m + x) * 2 ^ e + b) * 2 ^ l + y) / 2 ^ l ≡ (2 ^ m + x) * 2 ^ e + b
  value-high = high ((2 ^ m + x) * 2 ^ e + b) l hy

  value-extra : (((2 ^ m + x) * 2 ^ e + b) * 2 ^ l + y) / 2 ^ l % 2 ^ e ≡ b
  value-extra = ap (λ (k : ℕ). k % 2 ^ e) value-high ∙ low (2 ^ m + x) e hb

  value-top : (((2 ^ m + x) * 2 ^ e + b) * 2 ^ l + y) / 2 ^ (l + e) ≡ 2 ^ m + x
  value-top =
      sym (shr-shr (((2 ^ m + x) * 2 ^ e + b) * 2 ^ l + y) l e) ∙ ap (λ (k : ℕ). k / 2 ^ e) value-high ∙ high (2 ^ m + x) e hb

  value_mid : (((2 ^ m + x) * 2 ^ e + b) * 2 ^ l + y) / 2 ^ (l + e) % 2 ^ m ≡ x
  value_mid =
      ap (λ (k : ℕ). k % 2 ^ m) value-top ∙ ap (λ (k : ℕ). (k + x) % 2 ^ m) (sym (one-mul (2 ^ m))) ∙ low 1 m hx

  value-from : 2 ^ (m + e + l) ≤ ((2 ^ m + x) * 2 ^ e + b) * 2 ^ l + y
  value-from =
      rw (pow-add 2 (m + e) l, pow-add 2 m e)
      (le_trans (mul-le-mul_right (2 ^ l) (le_trans (mul-le-mul_right (2 ^ e) (omega arith)) (le-add_right _ b))) (le-add_right _ y))

  value-below : ((2 ^ m + x) * 2 ^ e + b) * 2 ^ l + y < 2 ^ suc (m + e + l)
  value-below =
      let p : 2 ^ suc (m + e + l) ≡ 2 ^ suc m * 2 ^ e * 2 ^ l =
      ap (λ (k : ℕ). 2 ^ k) (omega arith) ∙ pow-add 2 (suc m + e) l ∙ ap (λ (k : ℕ). k * 2 ^ l) (pow-add 2 (suc m) e)
      in
      rw p (digits_lt (digits_lt (omega arith) hb) hy)

-- ---- the definitions from 2 ^ s on

module _ (s m l v : ℕ) (big : 2 ^ s ≤ v) where
  pub symbol-past : symbol_of s m l v ≡ 2 ^ s + (top_bit v - s) * 2 ^ (m + l) + v / 2 ^ (top_bit v - m) % 2 ^ m * 2 ^ l + v % 2 ^ l
  unfolding symbol_of
  symbol-past = rw (le-ltb v (2 ^ s) big)

  pub extra-bits-past : extra_bits_of s m l v ≡ top_bit v - m - l
  unfolding extra_bits_of
  extra-bits-past = rw (le-ltb v (2 ^ s) big)

  pub extra-value-past : extra_value_of s m l v ≡ v / 2 ^ l % 2 ^ (top_bit v - m - l)
  unfolding extra_value_of
  extra-value-past = rw (le-ltb v (2 ^ s) big)

  pub read-bits-past : extra_bits_read s m l v ≡ s - m - l + (v - 2 ^ s) / 2 ^ (m + l)
  unfolding extra_bits_read
  read-bits-past = rw (le-ltb v (2 ^ s) big)

  pub read_past : (b : ℕ) → read_hybrid s m l v b ≡ ((v / 2 ^ l % 2 ^ m + 2 ^ m) * 2 ^ extra_bits_read s m l v + b) * 2 ^ l + v % 2 ^ l
  unfolding read_hybrid
  read_past b = rw (le-ltb v (2 ^ s) big)

  pub top_from : s ≤ top_bit v
  top_from =
      let p = lt-of-pow-lt s (suc (top_bit v)) (lt_of_le_of_lt big (top-spec v (lt_of_lt_of_le (pow_pos s) big)).1) in
      omega arith

-- ---- from either side to the common form, and back

module _ (s m l : ℕ) (h : m + l ≤ s) where
  past-power : (t j x y : ℕ) → x < 2 ^ m → y < 2 ^ l → t ≡ ((2 ^ (s - m - l) + j) * 2 ^ m + x) * 2 ^ l + y → (t - 2 ^ s) / 2 ^ (m + l) ≡ j
  past-power t j x y hx hy e =
      ap (λ (k : ℕ). k / 2 ^ (m + l))
      (ap₂ (λ (p q : ℕ). p - q) e (power-of s m l h) ∙ token-rest (2 ^ (s - m - l)) (2 ^ m) (2 ^ l) j x y)
      ∙ token-top j m l x y hx hy

  -- a value of 2 ^ s or more, with its split
  of-value : (v : ℕ) → 2 ^ s ≤ v → Form s m l (symbol_of s m l v) (extra_value_of s m l v) v
  of-value v big =
      let n = top_bit v in
      let from : s ≤ n = top_from s m l v big in
      let top = top-spec v (lt_of_lt_of_le (pow_pos s) big) in
      let extra : n - m - l ≡ s - m - l + (n - s) = omega arith in
      let bit : v / 2 ^ n ≡ 1 =
      div-eq_of_lt-le (2 ^ n) (rw (one-mul (2 ^ n)) top.0) (le_trans top.1 (le_of_eq (pow-succ' 2 n)))
      in
      let upper : v / 2 ^ (n - m) ≡ 2 ^ m + v / 2 ^ (n - m) % 2 ^ m =
      sym (Pow.split (v / 2 ^ (n - m)) m)
      ∙ ap (λ (k : ℕ). k * 2 ^ m + v / 2 ^ (n - m) % 2 ^ m)
      (shr-shr v (n - m) m ∙ ap (λ (k : ℕ). v / 2 ^ k) (omega arith) ∙ bit)
      ∙ ap (λ (k : ℕ). k + v / 2 ^ (n - m) % 2 ^ m) (one-mul (2 ^ m))
      in
      let middle : v / 2 ^ l ≡ (2 ^ m + v / 2 ^ (n - m) % 2 ^ m) * 2 ^ (n - m - l) + v / 2 ^ l % 2 ^ (n - m - l) =
      sym (Pow.split (v / 2 ^ l) (n - m - l))
      ∙ ap (λ (k : ℕ). k * 2 ^ (n - m - l) + v / 2 ^ l % 2 ^ (n - m - l))
      (shr-shr v l (n - m - l) ∙ ap (λ (k : ℕ). v / 2 ^ k) (omega arith) ∙ upper)
      in
      record {
        j = n - s;
        x = v / 2 ^ (n - m) % 2 ^ m;
        y = v % 2 ^ l;
        x-small = mod-lt _ (pow_pos m);
        y-small = mod-lt _ (pow_pos l);
        b-small = rw (extra-value-past s m l v big, ← extra) (mod-lt _ (pow_pos (n - m - l)));
        token =
            symbol-past s m l v big
            ∙ ap₂ (λ (p q : ℕ). p + (n - s) * q + v / 2 ^ (n - m) % 2 ^ m * 2 ^ l + v % 2 ^ l) (power-of s m l h) (pow-add 2 m l)
            ∙ symbol-sum (2 ^ (s - m - l)) (2 ^ m) (2 ^ l) (n - s) (v / 2 ^ (n - m) % 2 ^ m) (v % 2 ^ l);
        value =
            sym (Pow.split v l)
            ∙ ap (λ (k : ℕ). k * 2 ^ l + v % 2 ^ l)
            (middle
            ∙ ap₂ (λ (e b : ℕ). (2 ^ m + v / 2 ^ (n - m) % 2 ^ m) * 2 ^ e + b) extra (sym (extra-value-past s m l v big)));
      }

  -- a token of 2 ^ s or more, with its extra bits
  of-token : (t b : ℕ) → 2 ^ s ≤ t → b < 2 ^ extra_bits_read s m l t → Form s m l t b (read_hybrid s m l t b)
  of-token t b big hb =
      let k = s - m - l in
      let q = t / 2 ^ l / 2 ^ m in
      let past = read-bits-past s m l t big in
      let whole : t ≡ (q * 2 ^ m + t / 2 ^ l % 2 ^ m) * 2 ^ l + t % 2 ^ l =
      sym (Pow.split t l) ∙ ap (λ (k : ℕ). k * 2 ^ l + t % 2 ^ l) (sym (Pow.split (t / 2 ^ l) m))
      in
      let enough : 2 ^ k ≤ q =
      (le-div_iff_mul-le (pow_pos m)).1 ((le-div_iff_mul-le (pow_pos l)).1 (le_trans (le_of_eq (sym (power-of s m l h))) big))
      in
      let token : t ≡ ((2 ^ k + (q - 2 ^ k)) * 2 ^ m + t / 2 ^ l % 2 ^ m) * 2 ^ l + t % 2 ^ l =
      whole ∙ ap (λ (p : ℕ). (p * 2 ^ m + t / 2 ^ l % 2 ^ m) * 2 ^ l + t % 2 ^ l) (omega arith)
      in
      let taken : (t - 2 ^ s) / 2 ^ (m + l) ≡ q - 2 ^ k =
      past-power t (q - 2 ^ k) (t / 2 ^ l % 2 ^ m) (t % 2 ^ l) (mod-lt _ (pow_pos m)) (mod-lt _ (pow_pos l)) token
      in
      record {
        j = q - 2 ^ k;
        x = t / 2 ^ l % 2 ^ m;
        y = t % 2 ^ l;
        x-small = mod-lt _ (pow_pos m);
        y-small = mod-lt _ (pow_pos l);
        b-small = subst (λ (e : ℕ). b < 2 ^ e) (past ∙ ap (λ (e : ℕ). k + e) taken) hb;
        token = token;
        value =
            read_past s m l t big b
            ∙ ap₂ (λ (e p : ℕ). (p * 2 ^ e + b) * 2 ^ l + t % 2 ^ l) (past ∙ ap (λ (e : ℕ). k + e) taken) (omega arith);
      }

  module _ {t b v : ℕ} (f : Form s m l t b v) where
    token-big : 2 ^ s ≤ t
    token-big =
        rw (power-of s m l h, f.token)
        (le_trans (mul-le-mul_right (2 ^ l) (le_trans (mul-le-mul_right (2 ^ m) (le-add_right _ f.j)) (le-add_right _ f.x))) (le-add_right _ f.y))

    value-big : 2 ^ s ≤ v
    value-big =
        le_trans (pow_mono (omega arith))
        (subst⁻¹ (λ (k : ℕ). 2 ^ (m + (s - m - l + f.j) + l) ≤ k) f.value
        (value-from (s - m - l + f.j) b m l f.x f.y f.b-small f.x-small f.y-small))

    top-is : top_bit v ≡ s + f.j
    top-is =
        top_unique v (m + (s - m - l + f.j) + l)
        (subst⁻¹ (λ (k : ℕ). 2 ^ (m + (s - m - l + f.j) + l) ≤ k) f.value
        (value-from (s - m - l + f.j) b m l f.x f.y f.b-small f.x-small f.y-small))
        (subst⁻¹ (λ (k : ℕ). k < 2 ^ suc (m + (s - m - l + f.j) + l)) f.value
        (value-below (s - m - l + f.j) b m l f.x f.y f.b-small f.x-small f.y-small))
        ∙ omega arith

    reads-extra : extra_bits_read s m l t ≡ s - m - l + f.j
    reads-extra = read-bits-past s m l t token-big ∙ ap (λ (k : ℕ). s - m - l + k) (past-power t f.j f.x f.y f.x-small f.y-small f.token)

    reads : read_hybrid s m l t b ≡ v
    reads =
        let q = 2 ^ (s - m - l) + f.j in
        let mid : t / 2 ^ l % 2 ^ m ≡ f.x =
        subst⁻¹ (λ (k : ℕ). k / 2 ^ l % 2 ^ m ≡ f.x) f.token (token-mid q m l f.x f.y f.x-small f.y-small)
        in
        let under : t % 2 ^ l ≡ f.y =
        subst⁻¹ (λ (k : ℕ). k % 2 ^ l ≡ f.y) f.token (token-low q m l f.x f.y f.x-small f.y-small)
        in
        read_past s m l t token-big b
        ∙ ap₂ (λ (p e : ℕ). ((p + 2 ^ m) * 2 ^ e + b) * 2 ^ l + t % 2 ^ l) mid reads-extra
        ∙ ap₂ (λ (p y : ℕ). (p * 2 ^ (s - m - l + f.j) + b) * 2 ^ l + y) (add_comm f.x (2 ^ m)) under
        ∙ sym f.value

    symbol : symbol_of s m l v ≡ t
    symbol =
        let e = s - m - l + f.j in
        let at : top_bit v - m ≡ l + e = omega (arith, top-is) in
        let mid : v / 2 ^ (top_bit v - m) % 2 ^ m ≡ f.x =
        subst⁻¹ (λ (k : ℕ). v / 2 ^ k % 2 ^ m ≡ f.x) at
        (subst⁻¹ (λ (k : ℕ). k / 2 ^ (l + e) % 2 ^ m ≡ f.x) f.value
        (value_mid e b m l f.x f.y f.b-small f.x-small f.y-small))
        in
        let under : v % 2 ^ l ≡ f.y =
        subst⁻¹ (λ (k : ℕ). k % 2 ^ l ≡ f.y) f.value (value_low e b m l f.x f.y f.b-small f.x-small f.y-small)
        in
        symbol-past s m l v value-big
        ∙ ap₂ (λ (p q : ℕ). 2 ^ s + p * 2 ^ (m + l) + q * 2 ^ l + v % 2 ^ l) (omega (arith, top-is)) mid
        ∙ ap₂ (λ (p q : ℕ). p + f.j * q + f.x * 2 ^ l + v % 2 ^ l) (power-of s m l h) (pow-add 2 m l)
        ∙ ap (λ (y : ℕ). 2 ^ (s - m - l) * 2 ^ m * 2 ^ l + f.j * (2 ^ m * 2 ^ l) + f.x * 2 ^ l + y) under
        ∙ symbol-sum (2 ^ (s - m - l)) (2 ^ m) (2 ^ l) f.j f.x f.y
        ∙ sym f.token

    extra-bits : extra_bits_of s m l v ≡ s - m - l + f.j
    extra-bits = extra-bits-past s m l v value-big ∙ rw top-is (omega arith)

    extra-value : extra_value_of s m l v ≡ b
    extra-value =
        let e = s - m - l + f.j in
        let at : top_bit v - m - l ≡ e = omega (arith, top-is) in
        extra-value-past s m l v value-big
        ∙ subst⁻¹ (λ (k : ℕ). v / 2 ^ l % 2 ^ k ≡ b) at
        (subst⁻¹ (λ (k : ℕ). k / 2 ^ l % 2 ^ e ≡ b) f.value
        (value-extra e b m l f.x f.y f.b-small f.x-small f.y-small))

  -- what a decoder reads lies in the octave that the token names
  pub read-octave : (t b j : ℕ) → 2 ^ s ≤ t → j ≡ (t - 2 ^ s) / 2 ^ (m + l) → b < 2 ^ extra_bits_read s m l t
      → (2 ^ (s + j) ≤ read_hybrid s m l t b) × (read_hybrid s m l t b < 2 ^ suc (s + j))
  read-octave t b j big e hb =
      let f = of-token t b big hb in
      let top : top_bit (read_hybrid s m l t b) ≡ s + j = omega (arith, top-is f, reads-extra f, read-bits-past s m l t big) in
      rw (← top) (top-spec (read_hybrid s m l t b) (lt_of_lt_of_le (pow_pos s) (value-big f)))

-- ---- what others cite

-- below 2 ^ s a value and a token are one, with no extra bits
module _ (s m l v : ℕ) (small : v < 2 ^ s) where
  pub symbol-small : symbol_of s m l v ≡ v
  unfolding symbol_of
  symbol-small = rw (lt-ltb v (2 ^ s) small)

  pub extra-bits-small : extra_bits_of s m l v ≡ 0
  unfolding extra_bits_of
  extra-bits-small = rw (lt-ltb v (2 ^ s) small)

  pub extra-value-small : extra_value_of s m l v ≡ 0
  unfolding extra_value_of
  extra-value-small = rw (lt-ltb v (2 ^ s) small)

  pub read-bits-small : extra_bits_read s m l v ≡ 0
  unfolding extra_bits_read
  read-bits-small = rw (lt-ltb v (2 ^ s) small)

  pub read_small : (b : ℕ) → read_hybrid s m l v b ≡ v
  unfolding read_hybrid
  read_small b = rw (lt-ltb v (2 ^ s) small)

either : {A : Type 0} (x y : ℕ) → (x < y → A) → (y ≤ x → A) → A
either {A} x y f g = go (ltb x y) refl
  where
    go : (b : Bool) → ltb x y ≡ b → A
    go true e = f (ltb-true x y e)
    go false e = g (ltb-false x y e)

pub top-most : (v : ℕ) → v ≤ 131071 → 0 < v → top_bit v ≤ 16
top-most v hv pos =
    let p = lt-of-pow-lt (top_bit v) 17 (lt_of_le_of_lt (top-spec v pos).0 (omega arith)) in
    omega arith

module _ (s m l : ℕ) (h : m + l ≤ s) where
  -- The decoder reads the value back from its split.
  pub read-split : (v : ℕ) → read_hybrid s m l (symbol_of s m l v) (extra_value_of s m l v) ≡ v
  read-split v =
      either v (2 ^ s)
      (λ p. rw (symbol-small s m l v p) (read_small s m l v p (extra_value_of s m l v)))
      (λ p. reads s m l h (of-value s m l h v p))

  -- The decoder reads as many extra bits as the split has, and the split's number fits them.
  pub read-bits-split : (v : ℕ) → extra_bits_read s m l (symbol_of s m l v) ≡ extra_bits_of s m l v
  read-bits-split v =
      either v (2 ^ s)
      (λ p. rw (symbol-small s m l v p, extra-bits-small s m l v p) (read-bits-small s m l v p))
      (λ p. reads-extra s m l h (of-value s m l h v p) ∙ sym (extra-bits s m l h (of-value s m l h v p)))

  pub extra-value-fits : (v : ℕ) → extra_value_of s m l v < 2 ^ extra_bits_of s m l v
  extra-value-fits v =
      either v (2 ^ s)
      (λ p. rw (extra-value-small s m l v p, extra-bits-small s m l v p) (omega arith))
      (λ p. rw (extra-bits s m l h (of-value s m l h v p)) (of-value s m l h v p).b-small)

  -- Any token with a number that fits its extra bits is the split of what the decoder reads from them.
  pub split-read : (t b : ℕ) → b < 2 ^ extra_bits_read s m l t → (symbol_of s m l (read_hybrid s m l t b) ≡ t) × (extra_value_of s m l (read_hybrid s m l t b) ≡ b)
  split-read t b hb =
      either t (2 ^ s)
      (λ p. let z : b < 1 = rw (read-bits-small s m l t p) at hb in rw (read_small s m l t p b) (symbol-small s m l t p, extra-value-small s m l t p ∙ omega arith))
      (λ p. (symbol s m l h (of-token s m l h t b p hb), extra-value s m l h (of-token s m l h t b p hb)))

  -- A value below 2 ^ n has a symbol below 2 ^ s + (n - s) * 2 ^ (m + l).
  pub symbol-below : (n v : ℕ) → v < 2 ^ n → symbol_of s m l v < 2 ^ s + (n - s) * 2 ^ (m + l)
  symbol-below n v hv =
      either v (2 ^ s)
      (λ p. rw (symbol-small s m l v p) (le_trans p (le-add_right _ _)))
      (λ p.
      let t = top_bit v in
      let most : t < n = lt-of-pow-lt t n (lt_of_le_of_lt (top-spec v (lt_of_lt_of_le (pow_pos s) p)).0 hv) in
      let from : s ≤ t = top_from s m l v p in
      let digits : v / 2 ^ (t - m) % 2 ^ m * 2 ^ l + v % 2 ^ l < 2 ^ m * 2 ^ l =
      digits_lt (mod-lt _ (pow_pos m)) (mod-lt _ (pow_pos l))
      in
      let blocks : suc (t - s) * 2 ^ (m + l) ≤ (n - s) * 2 ^ (m + l) = mul-le-mul_right (2 ^ (m + l)) (omega arith) in
      rw (symbol-past s m l v p) (omega (arith, digits, blocks, pow-add 2 m l)))

-- ---- a configuration that check 4 passes

pub record Valid (s m l : ℕ) : Type 0 where
  pub small : s ≤ 6
  pub within : m + l ≤ s

pub both : (a b : Bool) → a && b ≡ true → (a ≡ true) × (b ≡ true)
both true b e = (refl, e)
both false b e = absurd (false≢true e)

pub valid : (s m l : ℕ) → valid_config s m l ≡ true → Valid s m l
unfolding valid_config
valid s m l e =
    let p = both _ _ e in
    record { small = leb-true s 6 p.0; within = leb-true (m + l) s p.1 }

-- Its symbols are few.
pub symbol-fits : (s m l v : ℕ) → valid_config s m l ≡ true → v ≤ 131071 → symbol_of s m l v < 1152
symbol-fits s m l v e hv =
    let p = valid s m l e in
    let small : 2 ^ s ≤ 2 ^ 6 = pow_mono p.small in
    let few : (17 - s) * 2 ^ (m + l) ≤ 17 * 64 = mul-le-mul {n₂ = 17} {m₂ = 64} (omega arith) (pow_mono {j = 6} (le_trans p.within p.small)) in
    lt_of_lt_of_le (symbol-below s m l p.within 17 v (omega arith)) (omega arith)

-- A value below 128 has one of the 128 symbols.
pub small-symbol : (s m l v : ℕ) → Valid s m l → v < 128 → symbol_of s m l v < 128
small-symbol s m l v p hv = lt_of_lt_of_le (symbol-below s m l p.within 7 v hv) (octaves s p.small (2 ^ (m + l)) (pow_mono p.within))
  where
    octaves : (s : ℕ) → s ≤ 6 → (q : ℕ) → q ≤ 2 ^ s → 2 ^ s + (7 - s) * q ≤ 128
    octaves zero h q e = omega arith
    octaves (suc zero) h q e = omega arith
    octaves (suc (suc zero)) h q e = omega arith
    octaves (suc (suc (suc zero))) h q e = omega arith
    octaves (suc (suc (suc (suc zero)))) h q e = omega arith
    octaves (suc (suc (suc (suc (suc zero))))) h q e = omega arith
    octaves (suc (suc (suc (suc (suc (suc zero)))))) h q e = omega arith
    octaves (suc (suc (suc (suc (suc (suc (suc s))))))) h q e = absurd (omega arith)

-- at most 16 extra bits
pub extra-bits-few : (s m l v : ℕ) → v ≤ 131071 → extra_bits_of s m l v ≤ 16
extra-bits-few s m l v hv =
    either v (2 ^ s)
    (λ p. rw (extra-bits-small s m l v p) (omega arith))
    (λ p.
    let most : top_bit v ≤ 16 = top-most v hv (lt_of_lt_of_le (pow_pos s) p) in
    rw (extra-bits-past s m l v p) (omega arith))

-- ---- which pairs are a value's

-- t and b are the split of v, a value up to 131,071 that has one of the 128 symbols
pub record SplitOf (s m l t b v : ℕ) : Type 0 where
  pub most : v ≤ 131071
  pub low : t < 128
  pub symbol_is : symbol_of s m l v ≡ t
  pub bits_are : extra_value_of s m l v ≡ b

module _ (s m l : ℕ) (h : m + l ≤ s) (t b : ℕ) where
  -- What passes the test is the split of what a decoder reads ..
  pub split-of : is_split s m l t b ≡ true → SplitOf s m l t b (read_hybrid s m l t b)
  unfolding is_split
  split-of e =
      let p = both _ _ e in
      let q = both _ _ p.0 in
      let back = split-read s m l h t b (ltb-true _ _ q.1) in
      record { most = leb-true _ _ p.1; low = ltb-true _ _ q.0; symbol_is = back.0; bits_are = back.1 }

  -- .. and the split of any value passes it and is read as that value.
  pub reads_as : {v : ℕ} → SplitOf s m l t b v → read_hybrid s m l t b ≡ v
  reads_as {v} p = rw (← p.symbol_is, ← p.bits_are) (read-split s m l h v)

  pub is-split : {v : ℕ} → SplitOf s m l t b v → is_split s m l t b ≡ true
  unfolding is_split
  is-split {v} p =
      let fits : b < 2 ^ extra_bits_read s m l t =
      rw (← p.symbol_is, ← p.bits_are, read-bits-split s m l h v) (extra-value-fits s m l h v)
      in
      simp (lt-ltb t 128 p.low, lt-ltb b _ fits, reads_as p, le-leb v 131071 p.most)
