-- Marks held as bits, 64 to a word. Assumes nothing.
use mathlib.Core.Path.{◌≡◌, refl, sym, ◌∙◌, ap}
use mathlib.Core.Bool.{Bool, true, false, true≢false, ◌&&◌}
use mathlib.Core.List.{List}
use Prim.Native.Nat.{ℕ, zero, suc, ◌+◌, ◌*◌, ◌-◌, ◌/◌, ◌%◌, ◌^◌, ◌≤◌, ◌<◌, max}
use native.Mathlib.Nat.{one-mul, lt_irrefl, pow-suc, mod-eq_of_lt, zero-div, div-eq_of_lt, max-le, max-zero, max_comm, max-eq_left}
use native.Mathlib.Numerals.{one-add, add-one}
use native.Mathlib.Omega.{arith}
use lib.Bits.{bit_or, or_shr, or_step}
use borrow.Author.Tests.{eq-eqb, eqb-true}
use lib.Dec.{lit≤, eqb}
use lib.ListN.{length, get_or, set, take, replicate, length-replicate, get_or-replicate}
use lib.Pow.{pow_pos, pow-add, pow-lt, shr-shr, shl-shr, high, ones_split, ones_lt}
use lib.Seq.{get_or-set_same, get_or-set_other}
use Rattle.std.specs.List.{list_all}
use Rattle.std.proofs.lemmas.List.Folds.{list_all_more}
use Rattle.laws.proofs.Tests.{and_left, and_right}
use Rattle.scan.specs.Marks.{marked_below, bit_at, Marks}
use Rattle.scan.proofs.Counts.{either, split}
use Rattle.scan.proofs.Marks.{marks-none, marks-more, marked-at, marked_all, refuted, same_truth}

bit-most : (v : ℕ) → v % 2 ≤ 1
bit-most v = omega arith

-- bit i of an or
or-bit : (a b i : ℕ) → bit_or a b / 2 ^ i % 2 ≡ max (a / 2 ^ i % 2) (b / 2 ^ i % 2)
or-bit a b i =
    let most : max (a / 2 ^ i % 2) (b / 2 ^ i % 2) ≤ 1 = max-le (bit-most (a / 2 ^ i)) (bit-most (b / 2 ^ i)) in
    ap (λ (x : ℕ). x % 2) (or_shr a b i ∙ or_step (a / 2 ^ i) (b / 2 ^ i)) ∙ omega arith

-- 2 ^ j has bit j alone
own-bit : (j : ℕ) → 2 ^ j / 2 ^ j % 2 ≡ 1
own-bit j = ap (λ (x : ℕ). x % 2) (rw (one-mul (2 ^ j)) at (shl-shr 1 j))

lower : (i d : ℕ) → 2 ^ (suc d + i) / 2 ^ i % 2 ≡ 0
lower i d = rw (pow-add 2 (suc d) i, shl-shr (2 ^ suc d) i, pow-suc 2 d) (omega arith)

other-bit : (i j : ℕ) → (i ≡ j → ⊥) → 2 ^ j / 2 ^ i % 2 ≡ 0
other-bit i j other =
    split i j (λ l. let e : suc (j - suc i) + i ≡ j = omega arith in rw e at (lower i (j - suc i)))
    (λ g. rw (div-eq_of_lt (pow-lt {i = j} {j = i} (omega arith))))

-- what `1 << j` is
pub one_shl : (j : ℕ) → j < 64 → 1 * 2 ^ j % 2 ^ 64 ≡ 2 ^ j
one_shl j h = rw one-mul (mod-eq_of_lt (pow-lt h))

abbrev pub Cleared : List ℕ → Type 0
Cleared words = (j : ℕ) → j < length words → get_or words j 0 ≡ 0

pub bits-clear :
    (n : ℕ) (s : List ℕ) → 0 < n → length s ≤ 64 * n
    → ((0 < length (replicate {A = ℕ} n 0)) × (length s ≤ 64 * length (replicate {A = ℕ} n 0))) × Cleared (replicate n 0)
bits-clear n s some room =
    ((rw (length-replicate {A = ℕ} n 0) some, rw (length-replicate {A = ℕ} n 0) room), λ j h. get_or-replicate n j 0 0 (rw (length-replicate {A = ℕ} n 0) at h))

pub bits_none : (words s : List ℕ) → length s ≤ 64 * length words → Cleared words → Marks s 0 (bit_at words) 0
bits_none words s room clear =
    marks-none s (bit_at words) (λ i h. rw (clear (i / 64) (omega arith), zero-div (2 ^ (i % 64))))

-- x's bit set, in the word that holds it where x is within the words
abbrev pub with_bit : List ℕ → ℕ → List ℕ
with_bit words x = set words (x / 64 % length words) (bit_or (get_or words (x / 64 % length words) 0) (2 ^ (x % 64)))

module _ (words : List ℕ) (x : ℕ) (low : x < 64 * length words) where
  own-word : x / 64 % length words ≡ x / 64
  own-word = mod-eq_of_lt (omega arith)

  same_word : get_or (with_bit words x) (x / 64) 0 ≡ bit_or (get_or words (x / 64) 0) (2 ^ (x % 64))
  same_word = rw own-word (get_or-set_same words (x / 64) _ 0 (omega arith))

  marked : bit_at (with_bit words x) x ≡ 1
  marked =
      rw (same_word, or-bit (get_or words (x / 64) 0) (2 ^ (x % 64)) (x % 64), own-bit (x % 64))
      (max_comm (get_or words (x / 64) 0 / 2 ^ (x % 64) % 2) 1 ∙ max-eq_left (bit-most (get_or words (x / 64) 0 / 2 ^ (x % 64))))

  others : (i : ℕ) → (i ≡ x → ⊥) → bit_at (with_bit words x) i ≡ bit_at words i
  others i d =
      either (i / 64) (x / 64)
      (λ e. rw (e, same_word, or-bit (get_or words (x / 64) 0) (2 ^ (x % 64)) (i % 64), other-bit (i % 64) (x % 64) (λ p. d (omega arith)))
      (max-zero (get_or words (x / 64) 0 / 2 ^ (i % 64) % 2)))
      (λ n. rw own-word (rw (get_or-set_other words (x / 64) (i / 64) (bit_or (get_or words (x / 64) 0) (2 ^ (x % 64))) 0 n)))

pub bits-more :
    {s : List ℕ} (words : List ℕ) {bad k x out : ℕ} → length s ≤ 64 * length words → Marks s bad (bit_at words) k → k < length s → x ≡ get_or s k 0 → out ≤ 1
    → (x < length s → out ≡ 0) → (length s ≤ x → out ≡ 1) → Marks s (bad + out) (bit_at (with_bit words x)) (k + 1)
bits-more {s} words {x = x} room so_far h here one low high =
    marks-more so_far h here one low high (bit_at (with_bit words x)) (λ l. marked words x (omega arith)) (λ l i n d. others words x (omega arith) i d)

-- ---- whole words
-- a number of k bits, all of them 1
all_ones : (k w : ℕ) → w < 2 ^ k → ((b : ℕ) → b < k → w / 2 ^ b % 2 ≡ 1) → w ≡ 2 ^ k - 1
all_ones zero w h bits = omega arith
all_ones (suc k) w h bits =
    let half : w / 2 ≡ 2 ^ k - 1 = all_ones k (w / 2) (omega (arith, pow-suc 2 k)) (λ b l. rw (shr-shr w 1 b, one-add b) (bits (suc b) (omega arith))) in
    omega (arith, half, bits 0 (omega arith), pow-suc 2 k, pow_pos k)

ones_bit : (b d : ℕ) → (2 ^ (suc d + b) - 1) / 2 ^ b % 2 ≡ 1
ones_bit b d =
    rw (ones_split (suc d) b, high (2 ^ suc d - 1) b (ones_lt b)) (omega (arith, pow-suc 2 d, pow_pos d))

abbrev pub full : ℕ
full = 18446744073709551615

pub full-bit : (b : ℕ) → b < 64 → full / 2 ^ b % 2 ≡ 1
full-bit b h =
    let e : suc (63 - b) + b ≡ 64 = omega arith in
    rw e at (ones_bit b (63 - b))

-- the first n bits are set
abbrev pub SetTo : List ℕ → ℕ → Type 0
SetTo words n = (i : ℕ) → i < n → 0 < bit_at words i

pub set-none : (words : List ℕ) → SetTo words (64 * 0)
set-none words i h = absurd (omega arith)

pub full-more : (words : List ℕ) (j : ℕ) → SetTo words (64 * j) → get_or words j 0 ≡ full → SetTo words (64 * (j + 1))
full-more words j so_far here i h =
    either (i / 64) j (λ e. rw (e, here, full-bit (i % 64) (omega arith)) (lit≤ tt)) (λ n. so_far i (omega arith))

pub set_more : (words : List ℕ) (n : ℕ) → SetTo words n → (bit_at words n ≡ 0 → ⊥) → SetTo words (n + 1)
set_more words n so_far here i h =
    either i n (λ e. rw e (either (bit_at words n) 0 (λ z. absurd (here z)) (λ d. omega arith))) (λ d. so_far i (omega arith))

pub set-done : (words : List ℕ) (n : ℕ) → SetTo words n → marked_below n (bit_at words) ≡ true
set-done words n so_far = marked_all n (bit_at words) so_far

pub set_at : (words : List ℕ) (n : ℕ) → marked_below n (bit_at words) ≡ true → SetTo words n
set_at words n e = marked-at n (bit_at words) e

-- a bit below n that is not set
pub not_set : (words : List ℕ) (i n : ℕ) → i < n → bit_at words i ≡ 0 → marked_below n (bit_at words) ≡ false
not_set words i n h clear = refuted _ (λ e. lt_irrefl 0 (rw clear at (marked-at n (bit_at words) e i h)))

-- a word below n that is not full
pub not_full : (words : List ℕ) (j n : ℕ) → j < n → get_or words j 0 < 2 ^ 64 → (get_or words j 0 ≡ full → ⊥) → marked_below (64 * n) (bit_at words) ≡ false
not_full words j n h fits other = refuted _ (λ e. other (all_ones 64 (get_or words j 0) fits (set e)))
  where
    set : marked_below (64 * n) (bit_at words) ≡ true → (b : ℕ) → b < 64 → get_or words j 0 / 2 ^ b % 2 ≡ 1
    set e b l =
        let below : 64 * j + b < 64 * n = omega arith in
        let word : (64 * j + b) / 64 ≡ j = omega arith in
        let bit : (64 * j + b) % 64 ≡ b = omega arith in
        let some : 0 < get_or words j 0 / 2 ^ b % 2 = rw (word, bit) at (marked-at (64 * n) (bit_at words) e (64 * j + b) below) in
        omega arith

-- fewer bits that are not all set
pub bits_left : (words : List ℕ) (n k : ℕ) → k ≤ n → marked_below k (bit_at words) ≡ false → marked_below n (bit_at words) ≡ false
bits_left words n k h e =
    refuted _ (λ t. true≢false (sym (marked_all k (bit_at words) (λ i l. marked-at n (bit_at words) t i (omega arith))) ∙ e))

-- the first n words are full just where their bits are set
abbrev is_full : ℕ → Bool
is_full w = eqb w full

full_set : (words : List ℕ) (n : ℕ) → n ≤ length words → list_all is_full (take n words) ≡ true → SetTo words (64 * n)
full_set words zero h e = set-none words
full_set words (suc n) h e =
    let both : list_all is_full (take n words) && is_full (get_or words n 0) ≡ true = sym (list_all_more is_full words n 0 h) ∙ rw (← add-one n) at e in
    rw (← add-one n) (full-more words n (full_set words n (omega arith) (and_left _ _ both)) (eqb-true _ _ (and_right _ _ both)))

set_full : (words : List ℕ) (n : ℕ) → n ≤ length words → ((j : ℕ) → get_or words j 0 < 2 ^ 64) → marked_below (64 * n) (bit_at words) ≡ true → list_all is_full (take n words) ≡ true
set_full words n h fits e = go n (omega arith)
  where
    each : (j : ℕ) → j < n → is_full (get_or words j 0) ≡ true
    each j l = either (get_or words j 0) full (λ p. eq-eqb _ _ p) (λ d. absurd (true≢false (sym e ∙ not_full words j n l (fits j) d)))

    go : (k : ℕ) → k ≤ n → list_all is_full (take k words) ≡ true
    go zero l = refl
    go (suc k) l = rw (← add-one k) (list_all_more is_full words k 0 (omega arith) ∙ rw (go k (omega arith)) (each k l))

pub all_full : (words : List ℕ) (n : ℕ) → n ≤ length words → ((j : ℕ) → get_or words j 0 < 2 ^ 64) → list_all is_full (take n words) ≡ marked_below (64 * n) (bit_at words)
all_full words n h fits =
    same_truth _ _ (λ e. set-done words (64 * n) (full_set words n h e)) (set_full words n h fits)
