-- What a symbol and its extra bits decode to, case by case as the code tests. Assumes nothing.
use Prim.Native.Nat.{ℕ, suc, ◌+◌, ◌-◌, ◌*◌, ◌/◌, ◌%◌, ◌^◌, ◌≤◌, ◌<◌}
use mathlib.Core.Path.{◌≡◌, refl, sym}
use mathlib.Core.Bool.{Bool, true, false, ◌&&◌, and-false}
use native.Mathlib.Omega.{arith}
use native.Mathlib.Nat.{le_trans, le_of_eq, lt_of_lt_of_le, mul-one, mul-le-mul_left}
use lib.Dec.{leb, ltb}
use lib.Pow.{pow_pos, pow_mono}
use borrow.Author.Tests.{lt-ltb, le-ltb, lt-leb, le-leb, leb-true, leb-false, ltb-true, ltb-false}
use Rattle.packing.specs.Hybrid.{extra_bits_read, read_hybrid, is_split}
use Rattle.packing.proofs.Hybrid.{read-bits-small, read_small, read-bits-past, read_past, read-octave, both, split-of}

module _ (s m l t b : ℕ) where
  pub symbol-none : 127 < t → is_split s m l t b ≡ false
  unfolding is_split
  symbol-none h = simp (le-ltb t 128 h)

  pub small-splits : t < 128 → t < 2 ^ s → b ≡ 0 → is_split s m l t b ≡ true
  unfolding is_split
  small-splits low small e =
      simp (lt-ltb t 128 low, read-bits-small s m l t small, e, read_small s m l t small 0, le-leb t 131071 (omega arith))

  -- more than the extra bits hold
  pub bits_none : 2 ^ extra_bits_read s m l t ≤ b → is_split s m l t b ≡ false
  unfolding is_split
  bits_none h = go (ltb t 128)
    where
      go : (c : Bool) → c && ltb b (2 ^ extra_bits_read s m l t) && leb (read_hybrid s m l t b) 131071 ≡ false
      go true = simp (le-ltb b _ h)
      go false = refl

  pub small-none : t < 2 ^ s → (b ≡ 0 → ⊥) → is_split s m l t b ≡ false
  small-none small ne = bits_none (rw (read-bits-small s m l t small) (omega arith))

  module _ (h : m + l ≤ s) (big : 2 ^ s ≤ t) (j : ℕ) (e : j ≡ (t - 2 ^ s) / 2 ^ (m + l)) where
    bits-read : extra_bits_read s m l t ≡ s - m - l + j
    bits-read = rw e (read-bits-past s m l t big)

    over_none : b < 2 ^ extra_bits_read s m l t → 16 < s + j → is_split s m l t b ≡ false
    unfolding is_split
    over_none hb high =
        let over : 131071 < read_hybrid s m l t b = le_trans (pow_mono {i = 17} high) (read-octave s m l h t b j big e hb).0 in
        rw (lt-leb (read_hybrid s m l t b) 131071 over) (and-false (ltb t 128 && ltb b (2 ^ extra_bits_read s m l t)))

    pub octave-none : 16 < s + j → is_split s m l t b ≡ false
    octave-none high = go (ltb b (2 ^ extra_bits_read s m l t)) refl
      where
        go : (c : Bool) → ltb b (2 ^ extra_bits_read s m l t) ≡ c → is_split s m l t b ≡ false
        go true d = over_none (ltb-true _ _ d) high
        go false d = bits_none (ltb-false _ _ d)

    pub octave-bits-none : 2 ^ (s - m - l + j) ≤ b → is_split s m l t b ≡ false
    octave-bits-none hb = bits_none (rw bits-read hb)

    module _ (fits : b < 2 ^ (s - m - l + j)) where
      pub value-is : read_hybrid s m l t b ≡ ((t / 2 ^ l % 2 ^ m + 2 ^ m) * 2 ^ (s - m - l + j) + b) * 2 ^ l + t % 2 ^ l
      value-is = rw (← bits-read) (read_past s m l t big b)

      pub value-most : s + j ≤ 16 → read_hybrid s m l t b ≤ 131071
      value-most low =
          let below : read_hybrid s m l t b < 2 ^ 17 =
          lt_of_lt_of_le (read-octave s m l h t b j big e (rw bits-read fits)).1 (pow_mono {i = suc (s + j)} {j = 17} (omega arith))
          in
          omega arith

      pub octave-splits : t < 128 → s + j ≤ 16 → is_split s m l t b ≡ true
      unfolding is_split
      octave-splits few low = simp (lt-ltb t 128 few, bits-read, lt-ltb b _ fits, le-leb _ 131071 (value-most low))

-- ---- a pair that is a value's split

module _ (s m l t b : ℕ) (h : m + l ≤ s) (ok : is_split s m l t b ≡ true) where
  module _ (big : 2 ^ s ≤ t) (j : ℕ) (e : j ≡ (t - 2 ^ s) / 2 ^ (m + l)) where
    in_bits : b < 2 ^ extra_bits_read s m l t
    unfolding is_split
    in_bits = ltb-true _ _ (both (ltb t 128) (ltb b (2 ^ extra_bits_read s m l t)) (both _ (leb (read_hybrid s m l t b) 131071) ok).0).1

    pub split-bits : b < 2 ^ (s - m - l + j)
    split-bits = rw (← bits-read s m l t b h big j e) in_bits

    pub split-octave : s + j ≤ 16
    split-octave = go (leb (s + j) 16) refl
      where
        go : (c : Bool) → leb (s + j) 16 ≡ c → s + j ≤ 16
        go true d = leb-true _ _ d
        go false d =
            let high : 17 ≤ s + j = leb-false _ _ d in
            let over : 131072 ≤ read_hybrid s m l t b = le_trans (pow_mono {i = 17} high) (read-octave s m l h t b j big e in_bits).0 in
            absurd (omega (arith, (split-of s m l h t b ok).most))

-- ---- the parts of a value that fits fit

pub record Parts (x e b l y : ℕ) : Type 0 where
  pub first : x ≤ 131071
  pub shifted : x * 2 ^ e ≤ 131071
  pub filled : x * 2 ^ e + b ≤ 131071
  pub whole : (x * 2 ^ e + b) * 2 ^ l ≤ 131071

pub parts : (x e b l y : ℕ) → (x * 2 ^ e + b) * 2 ^ l + y ≤ 131071 → Parts x e b l y
parts x e b l y h =
    let up : x ≤ x * 2 ^ e = le-mul-right x (2 ^ e) (pow_pos e) in
    let more : x * 2 ^ e + b ≤ (x * 2 ^ e + b) * 2 ^ l = le-mul-right (x * 2 ^ e + b) (2 ^ l) (pow_pos l) in
    record { first = omega arith; shifted = omega arith; filled = omega arith; whole = omega arith }
  where
    le-mul-right : (a n : ℕ) → 0 < n → a ≤ a * n
    le-mul-right a n p = le_trans (le_of_eq (sym (mul-one a))) (mul-le-mul_left a p)
