-- The values with top bit n = m + l + e: 2 ^ m runs of 2 ^ (l + e) values each, e extra bits.
use Prim.Native.Nat.{ℕ, suc, ◌+◌, ◌-◌, ◌*◌, ◌/◌, ◌%◌, ◌^◌, ◌<◌, ◌≤◌}
use mathlib.Core.Path.{◌≡◌, refl, sym, ap, ap₂, ◌∙◌, subst, subst⁻¹}
use mathlib.Core.Bool.{Bool, true, false, cond, ◌&&◌, ◌||◌}
use lib.Dec.{leb, ltb, eqb, lit<, lit≤}
use native.Mathlib.Omega.{arith}
use native.Mathlib.Nat.{add-zero, sub_self, mul_assoc, one-mul, zero-mul, mul-le-mul_right, mod-lt, mul-add-mod_self_right, lt_of_lt_of_le, le_trans, le_of_eq, le-add_right, lt_irrefl}
use mathlib.Core.List.{List}
use lib.Arith.{digits_lt}
use lib.IntN.{pos}
use lib.ListN.{get_or}
use lib.Ieee.{Float, inf, fin, add, of_int, binary32}
use lib.Pow.{pow-add, pow_mono, pow_pos}
use borrow.Author.Tests.{lt-ltb, le-ltb, lt-leb, leb-true, eqb-true}
use lib.Pow as Pow
use Rattle.packing.specs.Hybrid.{top_bit, symbol_of, extra_bits_of}
use Rattle.packing.proofs.Hybrid.{Valid, valid, top_unique, symbol-past, extra-bits-past, symbol-small, extra-bits-small}
use Rattle.prices.specs.Book.{at, symbol_at, cluster_price, cluster_symbol, cluster_extra, cluster_valid}
use Rattle.prices.specs.Checks.{each, same_bits}
use Rattle.prices.proofs.Each.{each-run, each-blocks, each_same, each_below}
use Rattle.prices.proofs.Costs.{zero-extra, no_word}
use Rattle.book_rows.specs.Row.{line_kept, four_kept, run_kept, octave_kept, priced_octaves}
use Rattle.book_rows.proofs.Runs.{four, and-four}

-- run i of 2 ^ m lies within them all
pub run-within : (m k i : ℕ) → i < 2 ^ m → i * 2 ^ k + 2 ^ k ≤ 2 ^ (m + k)
run-within m k i h = rw (pow-add 2 m k) (le_trans (le_of_eq (omega arith)) (mul-le-mul_right (2 ^ k) h))

-- value t of run i
module _ (s m l e i t : ℕ) (past : s ≤ m + l + e) (hi : i < 2 ^ m) (ht : t < 2 ^ (l + e)) where
  abbrev v : ℕ
  v = 2 ^ (m + l + e) + (i * 2 ^ (l + e) + t)

  -- the top bit and the m bits under it, and the rest
  parts : v ≡ (2 ^ m + i) * 2 ^ (l + e) + t
  parts = ap (λ (k : ℕ). k + (i * 2 ^ (l + e) + t)) (ap (λ (k : ℕ). 2 ^ k) (omega arith) ∙ pow-add 2 m (l + e)) ∙ omega arith

  inside : i * 2 ^ (l + e) + t < 2 ^ (m + l + e)
  inside = lt_of_lt_of_le (digits_lt hi ht) (le_of_eq (sym (pow-add 2 m (l + e)) ∙ ap (λ (k : ℕ). 2 ^ k) (omega arith)))

  big : 2 ^ s ≤ v
  big = le_trans (pow_mono past) (le-add_right _ _)

  top : top_bit v ≡ m + l + e
  top = top_unique v (m + l + e) (le-add_right _ _) (omega (arith, inside))

  middle : v / 2 ^ (m + l + e - m) % 2 ^ m ≡ i
  middle =
      ap₂ (λ (k w : ℕ). w / 2 ^ k % 2 ^ m) (omega arith) parts
      ∙ ap (λ (k : ℕ). k % 2 ^ m) (Pow.high (2 ^ m + i) (l + e) ht ∙ ap (λ (k : ℕ). k + i) (sym (one-mul (2 ^ m))))
      ∙ Pow.low 1 m hi

  low : v % 2 ^ l ≡ t % 2 ^ l
  low =
      ap (λ (w : ℕ). w % 2 ^ l)
      (parts ∙ ap (λ (k : ℕ). (2 ^ m + i) * k + t) (ap (λ (k : ℕ). 2 ^ k) (omega arith) ∙ pow-add 2 e l) ∙ ap (λ (k : ℕ). k + t) (sym (mul_assoc (2 ^ m + i) (2 ^ e) (2 ^ l))))
      ∙ mul-add-mod_self_right ((2 ^ m + i) * 2 ^ e) (2 ^ l) t

  pub run-symbol : symbol_of s m l v ≡ 2 ^ s + (m + l + e - s) * 2 ^ (m + l) + i * 2 ^ l + t % 2 ^ l
  run-symbol =
      symbol-past s m l v big
      ∙ ap (λ (n : ℕ). 2 ^ s + (n - s) * 2 ^ (m + l) + v / 2 ^ (n - m) % 2 ^ m * 2 ^ l + v % 2 ^ l) top
      ∙ ap₂ (λ (x y : ℕ). 2 ^ s + (m + l + e - s) * 2 ^ (m + l) + x * 2 ^ l + y) middle low

  pub run-extra : extra_bits_of s m l v ≡ e
  run-extra = extra-bits-past s m l v big ∙ ap (λ (n : ℕ). n - m - l) top ∙ omega arith

-- ---- the ready prices of cluster k, whose configuration is (s, m, l)

-- ready price w of the cluster is the price
abbrev pub kept_at : List ℕ → List Float → List Float → ℕ → ℕ → Bool
kept_at configs symbols ready k w = same_bits (at ready (256 * k + w)) (cluster_price configs symbols k w)

-- the first symbol of the values with top bit n
abbrev pub base : ℕ → ℕ → ℕ → ℕ → ℕ
base s m l n = 2 ^ s + (n - s) * 2 ^ (m + l)

module _ (configs : List ℕ) (symbols ready : List Float) (k s m l : ℕ) (es : get_or configs (3 * k) 0 ≡ s) (em : get_or configs (3 * k + 1) 0 ≡ m) (el : get_or configs (3 * k + 2) 0 ≡ l) where
  abbrev kept : ℕ → Bool
  kept = kept_at configs symbols ready k

  pub config-is : cluster_valid configs k ≡ true → Valid s m l
  unfolding cluster_valid
  config-is ok = valid s m l (rw (es, em, el) at ok)

  -- a symbol that has a price
  present : (t : ℕ) → t < 128 → symbol_at symbols k t ≡ at symbols (128 * k + t)
  unfolding symbol_at
  present t h = rw (lt-ltb t 128 h)

  head-price : 2 ^ s ≤ 128 → (v : ℕ) → v < 2 ^ s → cluster_price configs symbols k v ≡ add binary32 (at symbols (128 * k + v)) (fin false 0 (pos 0))
  unfolding cluster_price cluster_symbol cluster_extra
  head-price small v h = rw (es, em, el, symbol-small s m l v h, extra-bits-small s m l v h, zero-extra) (ap (λ (x : Float). add binary32 x (fin false 0 (pos 0))) (present v (lt_of_lt_of_le h small)))

  pub head-all : 2 ^ s ≤ 128 → each (2 ^ s) (line_kept symbols ready (128 * k) (256 * k) (fin false 0 (pos 0))) ≡ each (2 ^ s) (kept_at configs symbols ready k)
  unfolding line_kept
  head-all small = each_same (line_kept symbols ready (128 * k) (256 * k) (fin false 0 (pos 0))) kept (2 ^ s) (λ i h. ap (same_bits (at ready (256 * k + i))) (sym (head-price small i h)))

  module _ (n e from : ℕ) (whole : n ≡ m + l + e) (past : s ≤ n) (start : from ≡ 128 * k + base s m l n) (room : base s m l n + 2 ^ (m + l) ≤ 128) where
    run-price : (i t : ℕ) → i < 2 ^ m → t < 2 ^ (l + e) → cluster_price configs symbols k (2 ^ n + (i * 2 ^ (l + e) + t)) ≡ add binary32 (at symbols (from + i * 2 ^ l + t % 2 ^ l)) (of_int binary32 (pos e))
    unfolding cluster_price cluster_symbol cluster_extra
    run-price i t hi ht =
        let symbol = run-symbol s m l e i t (subst (λ (j : ℕ). s ≤ j) whole past) hi ht in
        let digits : i * 2 ^ l + t % 2 ^ l < 2 ^ m * 2 ^ l = digits_lt hi (mod-lt t (pow_pos l)) in
        rw (es, em, el)
        (ap₂ (λ (w x : ℕ). add binary32 (symbol_at symbols k w) (of_int binary32 (pos x)))
        (subst⁻¹ (λ (j : ℕ). symbol_of s m l (2 ^ j + (i * 2 ^ (l + e) + t)) ≡ 2 ^ s + (j - s) * 2 ^ (m + l) + i * 2 ^ l + t % 2 ^ l) whole symbol)
        (subst⁻¹ (λ (j : ℕ). extra_bits_of s m l (2 ^ j + (i * 2 ^ (l + e) + t)) ≡ e) whole (run-extra s m l e i t (subst (λ (j : ℕ). s ≤ j) whole past) hi ht))
        ∙ ap (λ (x : Float). add binary32 x (of_int binary32 (pos e)))
        (present (2 ^ s + (n - s) * 2 ^ (m + l) + i * 2 ^ l + t % 2 ^ l) (omega (arith, room, digits, pow-add 2 m l)) ∙ ap (at symbols) (omega (arith, start))))

    octave-all : octave_kept symbols ready from (256 * k + 2 ^ n) m l e ≡ each (2 ^ n) (λ w. kept (2 ^ n + w))
    unfolding octave_kept run_kept
    octave-all =
        each_same _ _ (2 ^ m)
        (λ i hi.
        each_same (run_kept symbols ready (from + i * 2 ^ l) (256 * k + 2 ^ n + i * 2 ^ (l + e)) l e) (λ t. kept (2 ^ n + (i * 2 ^ (l + e) + t))) (2 ^ (l + e))
        (λ t ht. ap₂ (λ (w : ℕ) (x : Float). same_bits (at ready w) x) (omega arith) (sym (run-price i t hi ht))))
        ∙ sym (each-blocks (λ w. kept (2 ^ n + w)) (2 ^ (l + e)) (2 ^ m))
        ∙ ap (λ (j : ℕ). each j (λ w. kept (2 ^ n + w))) (sym (pow-add 2 m (l + e)) ∙ ap (λ (j : ℕ). 2 ^ j) (omega arith))

    -- the values below 2 ^ n, then those with top bit n
    pub octave-step : (b : Bool) → b ≡ octave_kept symbols ready from (256 * k + 2 ^ n) m l e
        → each (2 ^ n) (kept_at configs symbols ready k) ≡ true
        → each (2 ^ (n + 1)) (kept_at configs symbols ready k) ≡ b
    octave-step b told below =
        let double : 2 ^ (n + 1) ≡ 2 ^ n + 2 ^ n = pow-add 2 n 1 ∙ omega arith in
        rw double (each-run kept (2 ^ n) (2 ^ n) ∙ ap₂ ◌&&◌ below (sym octave-all ∙ sym told))

  -- 6,m,6-m has no symbols for the values with top bit 7
  module _ (six : s ≡ 6) (full : m + l ≡ 6) where
    last-symbol : (w : ℕ) → w < 128 → 127 < cluster_symbol configs k (128 + w)
    unfolding cluster_symbol
    last-symbol w h =
        let top : top_bit (128 + w) ≡ 7 = top_unique (128 + w) 7 (le-add_right 128 w) (omega arith) in
        let big : 2 ^ s ≤ 128 + w = rw six (omega arith) in
        rw (es, em, el, symbol-past s m l (128 + w) big, top, six, full)
        (le_trans (le-add_right 128 ((128 + w) / 2 ^ (7 - m) % 2 ^ m * 2 ^ l)) (le-add_right _ ((128 + w) % 2 ^ l)))

    pub last-octave : (b : Bool) → b ≡ each 32 (λ i. four_kept ready (256 * k + 128 + 4 * i) (inf false) (inf false) (inf false) (inf false))
        → each 128 (kept_at configs symbols ready k) ≡ true
        → each 256 (kept_at configs symbols ready k) ≡ b
    unfolding four_kept
    last-octave b told below =
        each-run kept 128 128
        ∙ ap₂ ◌&&◌ below
        (each-blocks (λ w. kept (128 + w)) 4 32
        ∙ each_same _ _ 32
        (λ i h.
        four (λ t. kept (128 + (i * 4 + t)))
        ∙ and-four (none i 0 h (lit< tt) ∙ ap (λ (w : ℕ). same_bits (at ready w) (inf false)) (omega arith)) (none i 1 h (lit< tt)) (none i 2 h (lit< tt)) (none i 3 h (lit< tt)))
        ∙ sym told)
      where
        none : (i t : ℕ) → i < 32 → t < 4 → kept (128 + (i * 4 + t)) ≡ same_bits (at ready (256 * k + 128 + 4 * i + t)) (inf false)
        none i t hi ht =
            ap₂ (λ (w : ℕ) (x : Float). same_bits (at ready w) x) (omega arith)
            (no_word configs symbols k (128 + (i * 4 + t)) (last-symbol (i * 4 + t) (omega arith)))

-- The symbols of the values with top bit n are among the 128: a test over all s, m + l and n.
within-test : ℕ → ℕ → ℕ → Bool
within-test s b n = ltb s b || (ltb n s || (leb (priced_octaves b) n || leb (2 ^ s + (n - s) * 2 ^ b + 2 ^ b) 128))

within_all : each 7 (λ s. each 7 (λ b. each 8 (within-test s b))) ≡ true
unfolding each within-test priced_octaves
within_all = refl

pub octave-room : (s m l : ℕ) → Valid s m l → (n : ℕ) → n < 8 → n < priced_octaves (m + l) → s ≤ n → base s m l n + 2 ^ (m + l) ≤ 128
unfolding within-test
octave-room s m l ok n few priced past =
    let at-s = each_below (λ s. each 7 (λ b. each 8 (within-test s b))) 7 within_all s (omega (arith, ok.small)) in
    let at_b = each_below (λ b. each 8 (within-test s b)) 7 at-s (m + l) (omega (arith, ok.small, ok.within)) in
    let at_n = each_below (within-test s (m + l)) 8 at_b n few in
    leb-true _ 128 (rw (le-ltb s (m + l) ok.within, le-ltb n s past, lt-leb (priced_octaves (m + l)) n priced) at at_n)

-- how many have symbols
pub octaves-most : (b : ℕ) → priced_octaves b ≤ 8
unfolding priced_octaves
octaves-most b = go (eqb b 6)
  where
    go : (t : Bool) → cond t 7 8 ≤ 8
    go true = lit≤ tt
    go false = lit≤ tt

pub octaves-least : (b : ℕ) → 7 ≤ priced_octaves b
unfolding priced_octaves
octaves-least b = go (eqb b 6)
  where
    go : (t : Bool) → 7 ≤ cond t 7 8
    go true = lit≤ tt
    go false = lit≤ tt

pub octaves-few : (b : ℕ) → priced_octaves b < 8 → (b ≡ 6) × (7 ≡ priced_octaves b)
unfolding priced_octaves
octaves-few b = go (eqb b 6) refl
  where
    go : (t : Bool) → eqb b 6 ≡ t → cond {A = ℕ} t 7 8 < 8 → (b ≡ 6) × (◌≡◌ {A = ℕ} 7 (cond t 7 8))
    go true e h = (eqb-true b 6 e, refl)
    go false e h = absurd (lt_irrefl 8 h)

pub first-base : (s m l : ℕ) → 2 ^ s ≡ base s m l s
first-base s m l =
    sym (ap (λ (d : ℕ). 2 ^ s + d * 2 ^ (m + l)) (sub_self s) ∙ ap (λ (d : ℕ). 2 ^ s + d) (zero-mul (2 ^ (m + l))) ∙ add-zero (2 ^ s))

pub next-base : (s m l n : ℕ) → s ≤ n → base s m l (n + 1) ≡ base s m l n + 2 ^ (m + l)
next-base s m l n h =
    let more : n + 1 - s ≡ suc (n - s) = omega arith in
    rw more (omega arith)
