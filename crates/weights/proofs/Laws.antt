-- Under settings that check 10 passes every weight is a positive float of at most 2 ^ 12, and lambda and the rate of a restored level lie in
-- 2 ^ -30 to 2 ^ 30. Assumes nothing.
use mathlib.Core.Path.{◌≡◌, refl, sym, ap, ◌∙◌, subst}
use mathlib.Core.Bool.{Bool, true, false, not, ◌&&◌, cond}
use Prim.Native.Nat.{ℕ, zero, suc, ◌+◌, ◌*◌, ◌^◌, ◌≤◌, ◌<◌, max, min}
use native.Mathlib.Nat.{le_refl, le_trans, le_of_eq, mul-one, one-mul, zero-mul, mul_comm, mul_right_comm, mul-pos, mul-le-mul_right, lt_irrefl, lt_of_lt_of_le}
use native.Mathlib.Omega.{arith}
use borrow.Author.Tests.{ne_eqb}
use lib.Pow.{pow-add}
use lib.Dec.{T, ltb, eqb, le→leb, lit<, lit≤}
use lib.IntN.{ℤ, pos, negsuc}
use lib.Ieee.{Float, nan, inf, fin, binary32, up, down, unlike, round, of_int, add, sub, mul, div, le, is_nan, units, odd, prec, low}
use lib.Ieee.Fits.{down_pos, and_l, and_r, round_is}
use lib.Ieee.Order.{drop, kept}
use lib.Ieee.Exact.{HasValue}
use lib.Ieee.Back.{round_whole}
use lib.Ieee.Positive.{positive}
use lib.Ieee.Scale.{finite}
use Rattle.costs.specs.Cost.{bounded}
use Rattle.costs.proofs.Bound.{bounded-finite, bounded-le, round-bounded, sub-bounded, mul-bounded}
use Rattle.costs.proofs.Product.{positive-cost, square-cost}
use Rattle.costs.proofs.Difference.{sign_of, round-sign, diff-bounded}
use Rattle.weights.specs.declared.Settings.{Settings}
use Rattle.weights.specs.Weights.{clamp, whole, zero_f, one_f, two_f, chroma_weight, distortion_weight}
use Rattle.weights.specs.Settings.{within, is_distance, valid_settings, channel_scale, weight_at, restore_rate}
use Rattle.weights.proofs.Parts.{of_size, range-bounded, finite_number, Small, clamp-small, small_mul, one-plus, two-minus, small-minus, Factor, factor, mul-factor}

-- ---- distances

pub distance-bounded : (d : Float) → T (is_distance d) → T (bounded binary32 25 149 d)
unfolding is_distance
distance-bounded d h = range-bounded 25 d (and_l (le zero_f d) (le d (fin false 25 (pos 0))) h) (and_r (le zero_f d) (le d (fin false 25 (pos 0))) h)

-- less a constant of at most 3
less-bounded : (d c : Float) → T (is_distance d) → T (bounded binary32 3 149 c) → T (bounded binary32 28 149 (sub binary32 d c))
less-bounded d c h k = sub-bounded binary32 25 3 149 d c (lit< tt) (lit< {m = 28 * 2 ^ 149} {n = 2 ^ 277} tt) (distance-bounded d h) k

-- a rounded value is a number
round_number : (s : Bool) (num den : ℕ) → T (not (is_nan (round binary32 s num den)))
unfolding units odd is_nan
round_number s num den =
    subst (λ (x : Float). T (not (is_nan x))) (sym (round_is binary32 s num den)) (go (kept (prec binary32) (num * 2 ^ low binary32) den) (drop (prec binary32) (num * 2 ^ low binary32) den))
  where
    pick : (q k : ℕ) (b : Bool) → T (not (is_nan (cond b (odd 25 s q k 149) (inf s))))
    pick zero k true = tt
    pick (suc q) k true = tt
    pick q k false = tt

    go : (q k : ℕ) → T (not (is_nan (units binary32 s q k)))
    go q k = pick q k (ltb (q * 2 ^ k) (2 ^ 277))

div-number : (x : Float) → T (finite x) → T (not (is_nan (div binary32 x (fin false 7 (negsuc 1)))))
unfolding div
div-number nan h = absurd h
div-number (inf s) h = absurd h
div-number (fin s m e) h = round_number (unlike s false) (m * up e * 4) (7 * down e)

-- ---- the chroma weight

span : sub binary32 (fin false 1 (pos 2)) (fin false 9 (negsuc 1)) ≡ fin false 7 (negsuc 1)
unfolding sub
span = refl

step : sub binary32 one_f two_f ≡ fin true 1 (pos 0)
unfolding sub
step = refl

pub chroma-factor : (d : Float) → T (is_distance d) → Factor one_f two_f (chroma_weight d)
unfolding chroma_weight
chroma-factor d h =
    let x = sub binary32 d (fin false 9 (negsuc 1)) in
    let b = less-bounded d (fin false 9 (negsuc 1)) h (of_size false 9 (negsuc 1) 3 (lit≤ tt)) in
    let t = clamp (div binary32 x (sub binary32 (fin false 1 (pos 2)) (fin false 9 (negsuc 1)))) zero_f one_f in
    let n : T (not (is_nan (div binary32 x (sub binary32 (fin false 1 (pos 2)) (fin false 9 (negsuc 1)))))) =
    subst (λ (y : Float). T (not (is_nan (div binary32 x y)))) (sym span) (div-number x (bounded-finite binary32 28 149 x b)) in
    subst (λ (y : Float). Factor one_f two_f (add binary32 two_f (mul binary32 t y))) (sym step) (two-minus (mul binary32 t (fin true 1 (pos 0))) (small-minus t (clamp-small _ n)))

-- ---- the weight of a position

not-zero : (n : ℕ) (d : ℤ) → down d ≤ n * up d → eqb n 0 ≡ false
not-zero zero d h = absurd (lt_irrefl 0 (lt_of_lt_of_le (down_pos d) (le_trans h (le_of_eq (zero-mul (up d))))))
not-zero (suc n) d h = ne_eqb (suc n) 0 (none n)
  where
    none : (n : ℕ) → suc n ≡ 0 → ⊥
    none n e = omega arith

-- index / len, for index ≤ len and 1 ≤ len
quotient : (x y : Float) (i l : ℕ) → HasValue x false i 1 → HasValue y false l 1 → i ≤ l → 1 ≤ l → T (bounded binary32 1 149 (div binary32 x y)) × (sign_of (div binary32 x y) ≡ false)
unfolding div
quotient nan y i l h k a b = absurd h
quotient (inf s) y i l h k a b = absurd h
quotient (fin s m e) nan i l h k a b = absurd k
quotient (fin s m e) (inf t) i l h k a b = absurd k
quotient (fin s m e) (fin t n d) i l h k a b =
    let x : m * up e ≡ i * down e = sym (mul-one (m * up e)) ∙ h.1 in
    let y : n * up d ≡ l * down d = sym (mul-one (n * up d)) ∙ k.1 in
    let c : down d ≤ n * up d = le_trans (le_of_eq (sym (one-mul (down d)))) (le_trans (mul-le-mul_right (down d) b) (le_of_eq (sym y))) in
    let g : m * up e * down d ≤ n * up d * down e = le_trans (le_of_eq (ap (λ (z : ℕ). z * down d) x)) (le_trans (mul-le-mul_right (down d) (mul-le-mul_right (down e) a)) (le_of_eq (mul_right_comm l (down e) (down d) ∙ ap (λ (z : ℕ). z * down e) (sym y)))) in
    let r : div binary32 (fin s m e) (fin t n d) ≡ round binary32 false (m * up e * down d) (n * up d * down e) =
    ap (λ (z : Bool). cond z (cond (eqb m 0) nan (inf (unlike s t))) (round binary32 (unlike s t) (m * up e * down d) (n * up d * down e))) (not-zero n d c)
    ∙ ap (λ (z : Bool). round binary32 (unlike z t) (m * up e * down d) (n * up d * down e)) h.0
    ∙ ap (λ (z : Bool). round binary32 (unlike false z) (m * up e * down d) (n * up d * down e)) k.0 in (
      subst (λ (z : Float). T (bounded binary32 1 149 z)) (sym r)
          (round-bounded binary32 false (m * up e * down d) (n * up d * down e) 1 149 (mul-pos (lt_of_lt_of_le (down_pos d) c) (down_pos e)) (lit< tt) (lit< {m = 2 ^ 149} {n = 2 ^ 277} tt)
          (le_trans (mul-le-mul_right (2 ^ 149) g) (le_of_eq (mul_comm (n * up d * down e) (2 ^ 149))))),
      ap sign_of r ∙ round-sign binary32 false (m * up e * down d) (n * up d * down e),
    )

behind-bounded : (i l : ℕ) → i ≤ l → 1 ≤ l → l ≤ 1024 → T (bounded binary32 1 149 (sub binary32 one_f (div binary32 (whole i) (whole l))))
unfolding of_int
behind-bounded i l a b c =
    let q = quotient (whole i) (whole l) i l (round_whole binary32 false i (le_trans a (le_trans c (lit≤ tt)))) (round_whole binary32 false l (le_trans c (lit≤ tt))) a b in
    diff-bounded binary32 1 149 one_f (div binary32 (whole i) (whole l)) (lit< tt) (lit< {m = 2 ^ 149} {n = 2 ^ 277} tt) (sym q.1) (of_size false 1 (pos 0) 1 (le_refl 1)) q.0

larger-1 : (i l : ℕ) → i ≤ l → i ≤ max l 1
larger-1 i l h = omega arith

larger-2 : (l : ℕ) → 1 ≤ max l 1
larger-2 l = omega arith

larger-3 : (l : ℕ) → l ≤ 1024 → max l 1 ≤ 1024
larger-3 l h = omega arith

pub distortion-factor : (i l : ℕ) (d : Float) → i ≤ l → l ≤ 1024 → T (is_distance d) → Factor one_f two_f (distortion_weight i l d)
unfolding distortion_weight
distortion-factor i l d a c h =
    let s = sub binary32 one_f (div binary32 (whole i) (whole (max l 1))) in
    let b : T (bounded binary32 1 149 s) = behind-bounded i (max l 1) (larger-1 i l a) (larger-2 l) (larger-3 l c) in
    let strength = clamp (sub binary32 d two_f) zero_f one_f in
    let small : Small strength = clamp-small (sub binary32 d two_f) (finite_number (sub binary32 d two_f) (bounded-finite binary32 28 149 (sub binary32 d two_f) (less-bounded d two_f h (of_size false 1 (pos 1) 3 (lit≤ tt))))) in
    one-plus (mul binary32 strength (mul binary32 s s))
    (small_mul strength (mul binary32 s s) small (square-cost binary32 s (finite_number s (bounded-finite binary32 1 149 s b))) (mul-bounded binary32 1 149 1 149 149 s s refl (lit< tt) (lit< {m = 2 ^ 149} {n = 2 ^ 277} tt) b b))

-- ---- check 10's parts

within-factor : (lo hi x : Float) → T (positive lo) → T (positive hi) → T (within lo hi x) → Factor lo hi x
within-factor lo hi x p q h = factor lo hi x p q (and_l (le lo x) (le x hi) h) (and_r (le lo x) (le x hi) h)

abbrev on_lambda : Settings → Bool
on_lambda s = within (fin false 1 (negsuc 19)) (fin false 1 (pos 20)) s.lambda

abbrev on_penalty : Settings → Bool
on_penalty s = within (fin false 1 (negsuc 9)) (fin false 1 (pos 10)) s.penalty

abbrev on_weight : Settings → Bool
on_weight s = within (fin false 1 (negsuc 9)) (fin false 1 (pos 10)) s.channel_weight

-- 2 ^ k is 2 ^ (149 + k) of the smallest values
top : (k : ℕ) → T (bounded binary32 1 (149 + k) (fin false 1 (pos k)))
unfolding bounded
top k =
    le→leb (1 * 2 ^ k * 2 ^ 149) (1 * 2 ^ (149 + k) * 1)
    (le_of_eq (ap (λ (z : ℕ). z * 2 ^ 149) (one-mul (2 ^ k)) ∙ mul_comm (2 ^ k) (2 ^ 149) ∙ sym (pow-add 2 149 k) ∙ sym (one-mul (2 ^ (149 + k))) ∙ sym (mul-one (1 * 2 ^ (149 + k)))))

under : (hi x : Float) (j : ℕ) → T (positive hi) → T (bounded binary32 1 j hi) → T (positive x) → T (le x hi) → T (bounded binary32 1 j x)
under hi x j q b p h = bounded-le binary32 1 j x hi (positive-cost x p) (positive-cost hi q) h b

ones : Factor one_f two_f one_f
unfolding le
ones = factor one_f two_f one_f tt tt tt tt

module _ (s : Settings) (v : T (valid_settings s)) where
  pub lambda-within : T (within (fin false 1 (negsuc 19)) (fin false 1 (pos 20)) s.lambda)
  unfolding valid_settings
  lambda-within = and_l (on_lambda s) (on_penalty s) (and_l (on_lambda s && on_penalty s) (on_weight s) (and_l (on_lambda s && on_penalty s && on_weight s) (is_distance s.distance) v))

  pub penalty-within : T (within (fin false 1 (negsuc 9)) (fin false 1 (pos 10)) s.penalty)
  unfolding valid_settings
  penalty-within = and_r (on_lambda s) (on_penalty s) (and_l (on_lambda s && on_penalty s) (on_weight s) (and_l (on_lambda s && on_penalty s && on_weight s) (is_distance s.distance) v))

  pub weight-within : T (within (fin false 1 (negsuc 9)) (fin false 1 (pos 10)) s.channel_weight)
  unfolding valid_settings
  weight-within = and_r (on_lambda s && on_penalty s) (on_weight s) (and_l (on_lambda s && on_penalty s && on_weight s) (is_distance s.distance) v)

  pub distance-within : T (is_distance s.distance)
  unfolding valid_settings
  distance-within = and_r (on_lambda s && on_penalty s && on_weight s) (is_distance s.distance) v

  -- the rates
  pub lambda-factor : Factor (fin false 1 (negsuc 19)) (fin false 1 (pos 20)) s.lambda
  lambda-factor = within-factor (fin false 1 (negsuc 19)) (fin false 1 (pos 20)) s.lambda tt tt lambda-within

  pub restore-factor : Factor (fin false 1 (negsuc 29)) (fin false 1 (pos 30)) (restore_rate s)
  unfolding mul
  restore-factor =
      mul-factor (fin false 1 (negsuc 19)) (fin false 1 (pos 20)) (fin false 1 (negsuc 9)) (fin false 1 (pos 10)) s.lambda s.penalty tt tt tt tt tt tt lambda-factor
      (within-factor (fin false 1 (negsuc 9)) (fin false 1 (pos 10)) s.penalty tt tt penalty-within)

  -- the weights
  scale-factor : (channel : ℕ) → Factor (fin false 1 (negsuc 9)) (fin false 1 (pos 11)) (channel_scale s channel)
  unfolding channel_scale mul
  scale-factor channel =
      mul-factor (fin false 1 (negsuc 9)) (fin false 1 (pos 10)) one_f two_f s.channel_weight (cond (eqb channel 1) one_f (chroma_weight s.distance)) tt tt tt tt tt tt
      (within-factor (fin false 1 (negsuc 9)) (fin false 1 (pos 10)) s.channel_weight tt tt weight-within) (go (eqb channel 1))
    where
      go : (b : Bool) → Factor one_f two_f (cond b one_f (chroma_weight s.distance))
      go true = ones
      go false = chroma-factor s.distance distance-within

  pub weight-factor : (channel base i : ℕ) → base ≤ 1024 → Factor (fin false 1 (negsuc 9)) (fin false 1 (pos 12)) (weight_at s channel base i)
  unfolding weight_at mul
  weight-factor channel base i h =
      mul-factor (fin false 1 (negsuc 9)) (fin false 1 (pos 11)) one_f two_f (channel_scale s channel) (distortion_weight (min i base) base s.distance) tt tt tt tt tt tt (scale-factor channel)
      (distortion-factor (min i base) base s.distance (omega arith) h distance-within)

  -- as the least-cost proof wants them: positive, and bounded in the format's smallest values
  pub weight-positive : (channel base i : ℕ) → base ≤ 1024 → T (positive (weight_at s channel base i))
  weight-positive channel base i h = (weight-factor channel base i h).positive

  pub weight-bounded : (channel base i : ℕ) → base ≤ 1024 → T (bounded binary32 1 161 (weight_at s channel base i))
  weight-bounded channel base i h = under (fin false 1 (pos 12)) (weight_at s channel base i) 161 tt (top 12) (weight-factor channel base i h).positive (weight-factor channel base i h).high

  pub lambda-positive : T (positive s.lambda)
  lambda-positive = lambda-factor.positive

  pub lambda-bounded : T (bounded binary32 1 169 s.lambda)
  lambda-bounded = under (fin false 1 (pos 20)) s.lambda 169 tt (top 20) lambda-factor.positive lambda-factor.high

  pub restore-positive : T (positive (restore_rate s))
  restore-positive = restore-factor.positive

  pub restore-bounded : T (bounded binary32 1 179 (restore_rate s))
  restore-bounded = under (fin false 1 (pos 30)) (restore_rate s) 179 tt (top 30) restore-factor.positive restore-factor.high
