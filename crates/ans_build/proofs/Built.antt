-- The symbol prices of an ANS code: written one by one, and passing check 5. Assumes nothing.
use Prim.Native.Nat.{ℕ, ◌+◌, ◌*◌, ◌<◌}
use mathlib.Core.Path.{◌≡◌, refl, sym, ap, ◌∙◌, subst}
use mathlib.Core.Bool.{Bool, true, false, not, cond, ◌&&◌}
use mathlib.Core.List.{List}
use native.Mathlib.Omega.{arith}
use borrow.Author.Tests.{eqb-true, eq-eqb, leb-true}
use lib.Dec.{T, eqb, leb}
use lib.ListN.{length, get_or, set}
use lib.Ieee.{Float, nan, of_bits, nan_bits, le, lt, eq, binary32}
use lib.Ieee.Bits.{is_true}
use Rattle.laws.proofs.Table.{every}
use Rattle.laws.proofs.Table as Table
use Rattle.prices.specs.Book.{at}
use Rattle.prices.specs.Checks.{symbol_price, all_priced}
use Rattle.prices.proofs.Each.{each_all, each_below}
use Rattle.book_build.specs.Paint.{paint}
use Rattle.book_build.proofs.Painted.{paint-length, paint-more, paint-at}
use Rattle.ans_prices.specs.Ans.{ans_price}
use Rattle.ans_prices.specs.Table.{PriceTable}
use Rattle.ans_prices.proofs.Prices.{prices, part0, part1, part2, part3, part4, part5, part6, part7}
use Rattle.ans_prices.proofs.Whole.{read-price, tested}
use Rattle.ans_prices.proofs.Whole as Whole
use Rattle.ans_build.specs.Ans.{all_whole, ans_entry, ans_refusal, ans_symbols}

module _ (n : ℕ) (freqs : List ℕ) (xs : List Float) where
  pub written : 0 ≡ ans_refusal n freqs xs → ans_symbols n freqs xs ≡ paint (ans_entry freqs) 0 (128 * n) xs
  unfolding ans_symbols
  written e = simp (eq-eqb (ans_refusal n freqs xs) 0 (sym e))

-- what the builder answers 0 for
accepted : (n : ℕ) (freqs : List ℕ) (xs : List Float) → ans_refusal n freqs xs ≡ 0 → (length freqs ≡ 128 * n) × ((length xs ≡ 128 * n) × (all_whole freqs ≡ true))
unfolding ans_refusal
accepted n freqs xs e = go (leb 1 n && leb n 256) (eqb (length freqs) (128 * n)) (eqb (length xs) (128 * n)) (all_whole freqs) refl refl refl e
  where
    go : (a b c d : Bool) → eqb (length freqs) (128 * n) ≡ b → eqb (length xs) (128 * n) ≡ c → all_whole freqs ≡ d → ◌≡◌ {A = ℕ} (cond a (cond (b && c) (cond d 0 19) 2) 1) 0
        → (length freqs ≡ 128 * n) × ((length xs ≡ 128 * n) × (all_whole freqs ≡ true))
    go true true true true p q r e = (eqb-true _ _ p, (eqb-true _ _ q, r))
    go true true true false p q r e = absurd (omega arith)
    go true true false d p q r e = absurd (omega arith)
    go true false c d p q r e = absurd (omega arith)
    go false b c d p q r e = absurd (omega arith)

-- a frequency that passed 19
pub whole : (freqs : List ℕ) → all_whole freqs ≡ true → (i : ℕ) → i < length freqs → get_or freqs i 0 < 4097
unfolding all_whole
whole freqs e i h = let l = leb-true (get_or freqs i 0) 4096 (each_below (λ i. leb (get_or freqs i 0) 4096) (length freqs) e i h) in omega arith

-- ---- prices read from the table

-- every entry's bits are those of a price: no NaN, and passing check 5
fine : ℕ → Float → Bool
fine f x = symbol_price x

fine-all : T (every (λ f x. fine f (of_bits binary32 x)) 0 prices)
unfolding fine prices part0 part1 part2 part3 part4 part5 part6 part7 symbol_price of_bits le lt eq
fine-all = tt

pub price-passes : (f : ℕ) → f < 4097 → symbol_price (ans_price f) ≡ true
unfolding fine
price-passes f h = is_true (symbol_price (ans_price f)) (tested fine fine-all f h)

quiet_all : T (every (λ f x. not (nan_bits binary32 x)) 0 prices)
unfolding prices part0 part1 part2 part3 part4 part5 part6 part7 nan_bits
quiet_all = tt

module _ (table : List ℕ) (right : PriceTable table) where
  same-entry : (f : ℕ) → f < 4097 → get_or prices f 0 ≡ get_or table f 0
  same-entry f h = (Whole.table).each f h ∙ sym (right.each f h)

  pub quiet : (f : ℕ) → f < 4097 → T (not (nan_bits binary32 (get_or table f 0)))
  unfolding prices part0 part1 part2 part3 part4 part5 part6 part7
  quiet f h = subst (λ (x : ℕ). T (not (nan_bits binary32 x))) (same-entry f h) (Table.at (λ f x. not (nan_bits binary32 x)) prices quiet_all f h)

  reads : (f : ℕ) → f < 4097 → of_bits binary32 (get_or table f 0) ≡ ans_price f
  reads f h = ap (of_bits binary32) (right.each f h) ∙ read-price f

  -- one price more
  pub more : (freqs : List ℕ) (xs : List Float) {ys : List Float} (i : ℕ) → get_or freqs i 0 < 4097 → ys ≡ paint (ans_entry freqs) 0 i xs
      → set ys i (of_bits binary32 (get_or table (get_or freqs i 0) 0)) ≡ paint (ans_entry freqs) 0 (i + 1) xs
  unfolding ans_entry
  more freqs xs {ys} i h e =
      let z : 0 + i ≡ i = omega arith in
      rw (e, reads (get_or freqs i 0) h) (subst (λ (j : ℕ). set (paint (ans_entry freqs) 0 i xs) j (ans_entry freqs j) ≡ paint (ans_entry freqs) 0 (i + 1) xs) z (paint-more (ans_entry freqs) 0 i xs))

-- ---- check 5

pub built-passes : (n : ℕ) (freqs : List ℕ) (xs : List Float) → ans_refusal n freqs xs ≡ 0 → all_priced (ans_symbols n freqs xs) ≡ true
unfolding all_priced ans_entry
built-passes n freqs xs e =
    let w = written n freqs xs (sym e) in
    let p = accepted n freqs xs e in
    let long : length (ans_symbols n freqs xs) ≡ length xs = ap length w ∙ paint-length (ans_entry freqs) 0 (128 * n) xs in
    let a = p.0 in
    let b = p.1.0 in
    each_all (λ i. symbol_price (at (ans_symbols n freqs xs) i)) (length (ans_symbols n freqs xs))
    (λ i h.
    subst (λ (x : Float). symbol_price x ≡ true)
    (sym (ap (λ (l : List Float). at l i) w ∙ paint-at (ans_entry freqs) (128 * n) xs nan i (omega arith) (omega arith)))
    (price-passes (get_or freqs i 0) (whole freqs p.1.1 i (omega arith))))
