-- What a book that passes checks 1 to 6 has, entry by entry.
use Prim.Native.Nat.{ℕ, suc, ◌+◌, ◌*◌, ◌/◌, ◌<◌, ◌≤◌}
use mathlib.Core.Path.{◌≡◌, refl, sym, ap, ◌∙◌}
use mathlib.Core.Bool.{Bool, true, false, cond, ◌&&◌}
use mathlib.Core.List.{List}
use native.Mathlib.Omega.{arith}
use lib.Dec.{T, leb, ltb, eqb}
use lib.ListN.{length, get_or}
use lib.Ieee.{Float, fits, binary32, to_bits, of_bits}
use lib.Ieee.Bits.{of_bits-to_bits}
use lib.Ieee.Fits.{add-fits}
use borrow.Author.Tests.{eqb-true, eqb-false, leb-true, ltb-true}
use Rattle.prices.specs.Book.{Book, book_of, book_in, at, cluster_valid, cluster_price, price}
use Rattle.prices.specs.Checks.{symbol_price, same_bits, check1, check2, check3, check4, check5, check6, map_below, all_priced, row_kept, first_two, first_five, fill_refusal, book_refusal, ClusterPassed}
use Rattle.prices.proofs.Each.{both, each_below}

-- checks 1 to 5
pub record Sound (b : Book) : Type 0 where
  pub contexts : length b.map ≡ 14850
  pub some : 1 ≤ b.clusters
  pub few : b.clusters ≤ 256
  pub configs_long : length b.configs ≡ 3 * b.clusters
  pub symbols_long : length b.symbols ≡ 128 * b.clusters
  pub ready_long : length b.ready ≡ 256 * b.clusters
  pub mapped : (i : ℕ) → i < 14850 → get_or b.map i 0 < b.clusters
  pub valid : (k : ℕ) → k < b.clusters → cluster_valid b.configs k ≡ true
  pub priced : (i : ℕ) → i < 128 * b.clusters → symbol_price (at b.symbols i) ≡ true

-- checks 1 to 6
pub record Passed (b : Book) : Type 0 where
  pub sound : Sound b
  pub kept : (k v : ℕ) → k < b.clusters → v < 256 → same_bits (at b.ready (256 * k + v)) (cluster_price b.configs b.symbols k v) ≡ true

pub parts1 : (b : Book) → check1 b ≡ true → (length b.map ≡ 14850) × (1 ≤ b.clusters) × (b.clusters ≤ 256)
unfolding check1
parts1 b e =
    let p = both (eqb (length b.map) 14850 && leb 1 b.clusters) (leb b.clusters 256) e in
    let q = both (eqb (length b.map) 14850) (leb 1 b.clusters) p.0 in
    (eqb-true _ _ q.0, leb-true _ _ q.1, leb-true _ _ p.1)

pub parts2 : (b : Book) → check2 b ≡ true → (length b.configs ≡ 3 * b.clusters) × (length b.symbols ≡ 128 * b.clusters) × (length b.ready ≡ 256 * b.clusters)
unfolding check2
parts2 b e =
    let c = eqb (length b.configs) (3 * b.clusters) in
    let s = eqb (length b.symbols) (128 * b.clusters) in
    let p = both (c && s) (eqb (length b.ready) (256 * b.clusters)) e in
    let q = both c s p.0 in
    (eqb-true _ _ q.0, eqb-true _ _ q.1, eqb-true _ _ p.1)

through : (t : Bool) (x n : ℕ) → cond t x (suc n) ≡ 0 → (t ≡ true) × (x ≡ 0)
through true x n e = (refl, e)
through false x n e = absurd (omega arith)

pub sound : (b : Book) → fill_refusal b ≡ 0 → Sound b
unfolding fill_refusal first_five first_two check3 map_below check4 check5 all_priced
sound b e =
    let t1 = through (check1 b) _ 0 e in
    let t2 = through (check2 b) _ 1 t1.1 in
    let t3 = through (check3 b) _ 2 t2.1 in
    let t4 = through (check4 b) _ 3 t3.1 in
    let t5 = through (check5 b) _ 4 t4.1 in
    let p1 = parts1 b t1.0 in
    let p2 = parts2 b t2.0 in
    record {
      contexts = p1.0;
      some = p1.1;
      few = p1.2;
      configs_long = p2.0;
      symbols_long = p2.1;
      ready_long = p2.2;
      mapped =
          λ i h.
          ltb-true (get_or b.map i 0) b.clusters
          (each_below (λ j. ltb (get_or b.map j 0) b.clusters) (length b.map) t3.0 i (omega (arith, p1.0)));
      valid = each_below (cluster_valid b.configs) b.clusters t4.0;
      priced = λ i h. each_below (λ j. symbol_price (at b.symbols j)) (length b.symbols) t5.0 i (omega (arith, p2.1));
    }

-- Checks 1 and 2 alone.
pub two : (b : Book) → first_two b 0 ≡ 0 → (check1 b ≡ true) × (check2 b ≡ true)
unfolding first_two
two b e =
    let t1 = through (check1 b) _ 0 e in
    let t2 = through (check2 b) 0 1 t1.1 in
    (t1.0, t2.0)

pub two-first : (b : Book) → (first_two b 0 ≡ 0 → ⊥) → first_two b 0 ≡ fill_refusal b
unfolding fill_refusal first_five first_two
two-first b = go (check1 b) (check2 b)
  where
    later : ℕ
    later = cond (check3 b) (cond (check4 b) (cond (check5 b) 0 5) 4) 3

    go : (c1 c2 : Bool) → (◌≡◌ {A = ℕ} (cond c1 (cond c2 0 2) 1) 0 → ⊥) → ◌≡◌ {A = ℕ} (cond c1 (cond c2 0 2) 1) (cond c1 (cond c2 later 2) 1)
    go true true ne = absurd (ne refl)
    go true false ne = refl
    go false c2 ne = refl

-- Checks 1 to 6 are checks 1 to 5 and then the sixth.
chain : (c1 c2 c3 c4 c5 : Bool) → ℕ → ℕ
chain c1 c2 c3 c4 c5 later = cond c1 (cond c2 (cond c3 (cond c4 (cond c5 later 5) 4) 3) 2) 1

chain-later : (c1 c2 c3 c4 c5 : Bool) (n : ℕ) → chain c1 c2 c3 c4 c5 0 ≡ 0 → chain c1 c2 c3 c4 c5 n ≡ n
unfolding chain
chain-later true true true true true n e = refl
chain-later true true true true false n e = absurd (omega arith)
chain-later true true true false c5 n e = absurd (omega arith)
chain-later true true false c4 c5 n e = absurd (omega arith)
chain-later true false c3 c4 c5 n e = absurd (omega arith)
chain-later false c2 c3 c4 c5 n e = absurd (omega arith)

chain_first : (c1 c2 c3 c4 c5 : Bool) (n : ℕ) → (chain c1 c2 c3 c4 c5 0 ≡ 0 → ⊥) → chain c1 c2 c3 c4 c5 n ≡ chain c1 c2 c3 c4 c5 0
unfolding chain
chain_first true true true true true n ne = absurd (ne refl)
chain_first true true true true false n ne = refl
chain_first true true true false c5 n ne = refl
chain_first true true false c4 c5 n ne = refl
chain_first true false c3 c4 c5 n ne = refl
chain_first false c2 c3 c4 c5 n ne = refl

pub five-later : (b : Book) (n : ℕ) → fill_refusal b ≡ 0 → first_five b n ≡ n
unfolding fill_refusal first_five first_two chain
five-later b n e = chain-later (check1 b) (check2 b) (check3 b) (check4 b) (check5 b) n e

pub five-first : (b : Book) (n : ℕ) → (fill_refusal b ≡ 0 → ⊥) → first_five b n ≡ fill_refusal b
unfolding fill_refusal first_five first_two chain
five-first b n ne = chain_first (check1 b) (check2 b) (check3 b) (check4 b) (check5 b) n ne

pub six : (b : Book) → fill_refusal b ≡ 0 → book_refusal b ≡ cond (check6 b) 0 6
unfolding book_refusal
six b = five-later b (cond (check6 b) 0 6)

pub first-five : (b : Book) → (fill_refusal b ≡ 0 → ⊥) → book_refusal b ≡ fill_refusal b
unfolding book_refusal
first-five b = five-first b (cond (check6 b) 0 6)

-- the first five pass where all six do
pub five : (b : Book) → book_refusal b ≡ 0 → fill_refusal b ≡ 0
five b e = go (eqb (fill_refusal b) 0) refl
  where
    go : (t : Bool) → eqb (fill_refusal b) 0 ≡ t → fill_refusal b ≡ 0
    go true d = eqb-true (fill_refusal b) 0 d
    go false d = sym (first-five b (eqb-false (fill_refusal b) 0 d)) ∙ e

pub passed : (b : Book) → book_refusal b ≡ 0 → Passed b
unfolding check6 row_kept
passed b e =
    let rows = (through (check6 b) 0 5 (sym (six b (five b e)) ∙ e)).0 in
    record {
      sound = sound b (five b e);
      kept =
          λ k v h i.
          each_below (λ w. same_bits (at b.ready (256 * k + w)) (cluster_price b.configs b.symbols k w)) 256
          (each_below (row_kept b.configs b.symbols b.ready) b.clusters rows k h) v i;
    }

-- a book that passes them is the book of its lists
abbrev pub listed : Book → Book
listed b = book_in b.map b.configs b.symbols b.ready

pub by-lists : (b : Book) → book_refusal b ≡ 0 → b ≡ listed b
by-lists b e =
    let number : b.clusters ≡ length b.configs / 3 = omega (arith, (passed b e).sound.configs_long) in
    ap (λ (n : ℕ). book_of n b.map b.configs b.symbols b.ready) number

pub listed-passed : (b : Book) → book_refusal b ≡ 0 → book_refusal (listed b) ≡ 0
listed-passed b e = ap book_refusal (sym (by-lists b e)) ∙ e

-- a cluster of a book that passes them
pub priced-in : {b : Book} {k : ℕ} → Passed b → k < b.clusters → ClusterPassed b.configs b.symbols b.ready k
priced-in {b} {k} p h =
    record {
      few = omega (arith, h, p.sound.few);
      configs_long = omega (arith, h, p.sound.configs_long);
      symbols_long = omega (arith, h, p.sound.symbols_long);
      ready_long = omega (arith, h, p.sound.ready_long);
      valid = p.sound.valid k h;
      kept = λ v. p.kept k v h;
    }

-- two values of the format with the same bits are one
pub same_float : {x y : Float} → T (fits binary32 x) → T (fits binary32 y) → same_bits x y ≡ true → x ≡ y
unfolding same_bits
same_float {x} {y} fx fy e =
    sym (of_bits-to_bits binary32 x fx) ∙ ap (of_bits binary32) (eqb-true (to_bits binary32 x) (to_bits binary32 y) e) ∙ of_bits-to_bits binary32 y fy

pub cluster-price-fits : (configs : List ℕ) (symbols : List Float) (k v : ℕ) → T (fits binary32 (cluster_price configs symbols k v))
unfolding cluster_price
cluster-price-fits configs symbols k v = add-fits binary32 _ _

pub price-fits : (b : Book) (context v : ℕ) → T (fits binary32 (price b context v))
unfolding price
price-fits b context v = cluster-price-fits b.configs b.symbols (get_or b.map context 0) v
