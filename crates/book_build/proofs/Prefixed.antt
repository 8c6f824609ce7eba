-- The symbol prices of a prefix code: written row by row, and passing check 5.
use Prim.Native.Nat.{ℕ, ◌+◌, ◌*◌, ◌/◌, ◌<◌}
use mathlib.Core.Path.{◌≡◌, refl, sym, ap, ap₂, ◌∙◌, subst}
use mathlib.Core.Bool.{Bool, true, false, cond, ◌&&◌}
use mathlib.Core.List.{List}
use native.Mathlib.Omega.{arith}
use lib.Dec.{eqb, leb}
use lib.IntN.{pos}
use lib.ListN.{length, get_or}
use lib.Ieee.{Float, nan, fin, of_int, le, lt, eq, binary32}
use borrow.Author.Tests.{eqb-true, eq-eqb}
use Rattle.prices.specs.Book.{at}
use Rattle.prices.specs.Checks.{each, symbol_price, all_priced}
use Rattle.prices.proofs.Each.{each_all, each_below}
use Rattle.book_build.specs.Paint.{paint}
use Rattle.book_build.specs.Prefix.{Prefix, prefix_entry, row_entry, single_of, trained, unseen_price, depth_price, prefix_refusal, prefix_symbols}
use Rattle.book_build.proofs.Painted.{paint-length, paint-run, paint-same, paint-at}

-- one more row
pub row-after : (p : Prefix) (k : ℕ) (unseen : Float) (single : Bool) (xs ys zs : List Float)
    → unseen ≡ unseen_price (p.strict && trained p.depths k) → single ≡ single_of p.singles k
    → ys ≡ paint (prefix_entry p) 0 (128 * k) xs → zs ≡ paint (row_entry unseen single p.depths) (128 * k) 128 ys
    → zs ≡ paint (prefix_entry p) 0 (128 * (k + 1)) xs
unfolding prefix_entry
row-after p k unseen single xs ys zs eu es ey ez =
    ez
    ∙ ap (paint (row_entry unseen single p.depths) (128 * k) 128) ey
    ∙ paint-same (row_entry unseen single p.depths) (prefix_entry p) (128 * k) 128 (paint (prefix_entry p) 0 (128 * k) xs)
    (λ i h.
    let same : k ≡ (128 * k + i) / 128 = omega arith in
    ap₂ (λ (u : Float) (s : Bool). row_entry u s p.depths (128 * k + i))
    (eu ∙ ap (λ (n : ℕ). unseen_price (p.strict && trained p.depths n)) same)
    (es ∙ ap (single_of p.singles) same))
    ∙ paint-run (prefix_entry p) (128 * k) 128 xs
    ∙ ap (λ (n : ℕ). paint (prefix_entry p) 0 n xs) (omega arith)

module _ (p : Prefix) (xs : List Float) where
  pub written : 0 ≡ prefix_refusal p xs → prefix_symbols p xs ≡ paint (prefix_entry p) 0 (128 * p.clusters) xs
  unfolding prefix_symbols
  written e = simp (eq-eqb (prefix_refusal p xs) 0 (sym e))

last-test : (a b d : Bool) → ◌≡◌ {A = ℕ} (cond a (cond (b && d) 0 2) 1) 0 → d ≡ true
last-test true true true e = refl
last-test true true false e = absurd (omega arith)
last-test true false d e = absurd (omega arith)
last-test false b d e = absurd (omega arith)

right-length : (p : Prefix) (xs : List Float) → prefix_refusal p xs ≡ 0 → length xs ≡ 128 * p.clusters
unfolding prefix_refusal
right-length p xs e =
    eqb-true _ _
    (last-test (leb 1 p.clusters && leb p.clusters 256) (eqb (length p.depths) (128 * p.clusters) && eqb (length p.singles) p.clusters) (eqb (length xs) (128 * p.clusters)) e)

-- ---- check 5

-- a test over all depths
depths-pass : each 256 (λ n. symbol_price (of_int binary32 (pos n))) ≡ true
unfolding each symbol_price of_int le lt eq
depths-pass = refl

-- a price from a depth and the price of an unseen symbol
depth-passes : (unseen : Float) → symbol_price unseen ≡ true → (single : Bool) (n : ℕ) → n < 256 → symbol_price (depth_price unseen single n) ≡ true
unfolding depth_price symbol_price le lt eq
depth-passes unseen ok single n h = go (eqb n 0) single
  where
    go : (z s : Bool) → symbol_price (cond z unseen (cond s (fin false 0 (pos 0)) (of_int binary32 (pos n)))) ≡ true
    go true s = ok
    go false true = refl
    go false false = each_below (λ k. symbol_price (of_int binary32 (pos k))) 256 depths-pass n h

unseen-passes : (never : Bool) → symbol_price (unseen_price never) ≡ true
unfolding unseen_price symbol_price le lt eq
unseen-passes true = refl
unseen-passes false = refl

-- Prices that the builder wrote are symbol prices, whatever the depths, which are bytes.
pub built-passes : (p : Prefix) (xs : List Float) → ((i : ℕ) → get_or p.depths i 0 < 256) → prefix_refusal p xs ≡ 0 → all_priced (prefix_symbols p xs) ≡ true
unfolding all_priced prefix_entry row_entry
built-passes p xs bytes e =
    let w = written p xs (sym e) in
    let long : length (prefix_symbols p xs) ≡ length xs = ap length w ∙ paint-length (prefix_entry p) 0 (128 * p.clusters) xs in
    each_all (λ i. symbol_price (at (prefix_symbols p xs) i)) (length (prefix_symbols p xs))
    (λ i h.
    subst (λ (x : Float). symbol_price x ≡ true)
    (sym (ap (λ (l : List Float). at l i) w ∙ paint-at (prefix_entry p) (128 * p.clusters) xs nan i (omega (arith, right-length p xs e)) (omega (arith, right-length p xs e))))
    (depth-passes _ (unseen-passes (p.strict && trained p.depths (i / 128))) (single_of p.singles (i / 128)) (get_or p.depths i 0) (bytes i)))
