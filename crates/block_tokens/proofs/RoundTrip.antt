-- What the writer gives the reader turns back into the levels, and what the reader accepts the writer reproduces. Assumes nothing.
use Prim.Native.Nat.{ℕ, ◌*◌, ◌≤◌}
use mathlib.Core.Path.{◌≡◌, refl, sym, ap, ap₂, ◌∙◌}
use mathlib.Core.Bool.{true, cond}
use mathlib.Core.List.{List, [], ◌∷◌, map, zip_with}
use native.Mathlib.Omega.{arith}
use native.Mathlib.Nat.{le_trans}
use borrow.Author.Tests.{eqb-true, eq-eqb, ltb-true, lt-ltb, le-leb}
use lib.Dec.{eqb, leb, ltb}
use lib.IntN.{ℤ}
use lib.ListN.{length, length-map}
use Rattle.block.specs.declared.Shape.{Shape}
use Rattle.block_tokens.specs.Tokens.{Token, covered_by, count_context, prev_by, nonzeros_of, level_tokens, block_tokens}
use Rattle.block_tokens.specs.Code.{Code, symbol_in, bits_in}
use Rattle.block_tokens.specs.Writing.{all_within, all_coded}
use Rattle.block_tokens.specs.Reading.{Pair, pair, pair_of, splits_in, value_in, Levels, Refused, read_levels, read_block, read_tokens}
use Rattle.block_tokens.proofs.Counts.{nonzeros-most}
use Rattle.block_tokens.proofs.Pairs.{Within, pair_read, read-pair}
use Rattle.block_tokens.proofs.Levels.{both, provided, levels-read, read-levels}

-- ---- the two lists as one

zip-maps : (x : Code) (ts : List Token) → zip_with pair (map (symbol_in x) ts) (map (bits_in x) ts) ≡ map (pair_of x) ts
unfolding zip_with
zip-maps x [] = refl
zip-maps x (t ∷ ts) = ap (λ (ps : List Pair). pair_of x t ∷ ps) (zip-maps x ts)

unzip-symbols : (xs ys : List ℕ) → length xs ≡ length ys → map (λ p. p.symbol) (zip_with pair xs ys) ≡ xs
unfolding zip_with
unzip-symbols [] ys e = refl
unzip-symbols (a ∷ xs) [] e = absurd (omega arith)
unzip-symbols (a ∷ xs) (b ∷ ys) e = ap (λ (l : List ℕ). a ∷ l) (unzip-symbols xs ys (omega arith))

unzip-bits : (xs ys : List ℕ) → length xs ≡ length ys → map (λ p. p.bits) (zip_with pair xs ys) ≡ ys
unfolding zip_with
unzip-bits [] [] e = refl
unzip-bits [] (b ∷ ys) e = absurd (omega arith)
unzip-bits (a ∷ xs) [] e = absurd (omega arith)
unzip-bits (a ∷ xs) (b ∷ ys) e = ap (λ (l : List ℕ). b ∷ l) (unzip-bits xs ys (omega arith))

symbols-of : (x : Code) (ts : List Token) → map (λ p. p.symbol) (map (pair_of x) ts) ≡ map (symbol_in x) ts
symbols-of x [] = refl
symbols-of x (t ∷ ts) = ap (λ (l : List ℕ). symbol_in x t ∷ l) (symbols-of x ts)

bits_of : (x : Code) (ts : List Token) → map (λ p. p.bits) (map (pair_of x) ts) ≡ map (bits_in x) ts
bits_of x [] = refl
bits_of x (t ∷ ts) = ap (λ (l : List ℕ). bits_in x t ∷ l) (bits_of x ts)

-- ---- a block's tokens

-- the levels from scan position c on are as the writer takes them
pub record Writable (x : Code) (h : Shape) (qs : List ℤ) : Type 0 where
  pub long : length qs ≡ 63 * covered_by h
  pub small : all_within qs ≡ true
  pub few : all_coded x (block_tokens h qs) ≡ true

module _ {x : Code} (within : Within x) (h : Shape) (most : covered_by h ≤ 1024) where
  block_read : (qs : List ℤ) → Writable x h qs → read_block x h (map (pair_of x) (block_tokens h qs)) ≡ Levels qs
  unfolding read_block block_tokens all_coded
  block_read qs w =
      let count : nonzeros_of qs ≤ 63 * covered_by h = le_trans (nonzeros-most qs) (omega (arith, w.long)) in
      let token : Token = record { context = count_context h; value = nonzeros_of qs } in
      let parts = both (ltb (symbol_in x token) 128) (all_coded x (level_tokens h (covered_by h) (prev_by h (nonzeros_of qs)) qs)) w.few in
      let p = pair_read within token (omega arith) (ltb-true _ _ parts.0) in
      simp (
        p.splits,
        p.value,
        le-leb (nonzeros_of qs) (63 * covered_by h) count,
        levels-read within h (covered_by h) (prev_by h (nonzeros_of qs)) qs (omega (arith, w.long)) w.small parts.1,
      )

  -- What the writer gives, the reader turns back into those levels.
  pub written-reads : (qs : List ℤ) → Writable x h qs
      → read_tokens x h (map (symbol_in x) (block_tokens h qs)) (map (bits_in x) (block_tokens h qs)) ≡ Levels qs
  unfolding read_tokens
  written-reads qs w =
      simp (length-map (block_tokens h qs) (symbol_in x), length-map (block_tokens h qs) (bits_in x), eq-eqb (length (block_tokens h qs)) _ refl, zip-maps x (block_tokens h qs))
      (block_read qs w)

  record BlockOf (ps : List Pair) (qs : List ℤ) : Type 0 where
    writable : Writable x h qs
    same : map (pair_of x) (block_tokens h qs) ≡ ps

  read-block : (ps : List Pair) (qs : List ℤ) → read_block x h ps ≡ Levels qs → BlockOf ps qs
  unfolding read_block block_tokens all_coded
  read-block [] qs e = let z : ◌≡◌ {A = ℕ} 0 1 = cc in absurd (omega arith)
  read-block (p ∷ ps) qs e =
      let count = value_in x (count_context h) p in
      let later = read_levels x h (covered_by h) (prev_by h count) count ps in
      let split = provided (splits_in x (count_context h) p) (cond (leb count (63 * covered_by h)) later (Refused 21)) 20 qs e in
      let fits = provided (leb count (63 * covered_by h)) later 21 qs split.1 in
      let r = read-levels within h (covered_by h) (prev_by h count) count ps qs fits.1 in
      let taken = read-pair within (count_context h) p split.0 in
      record {
        writable = record { long = omega (arith, r.long); small = r.small; few = rw r.count (simp (lt-ltb _ _ taken.low, r.few)) };
        same = rw r.count (ap₂ ◌∷◌ taken.same r.same);
      }

  -- What the reader accepts, the writer reproduces token by token.
  pub record Reproduced (symbols bits : List ℕ) (qs : List ℤ) : Type 0 where
    pub writable : Writable x h qs
    pub same-symbols : map (symbol_in x) (block_tokens h qs) ≡ symbols
    pub same_bits : map (bits_in x) (block_tokens h qs) ≡ bits

  pub read-writes : (symbols bits : List ℕ) (qs : List ℤ) → read_tokens x h symbols bits ≡ Levels qs → Reproduced symbols bits qs
  unfolding read_tokens
  read-writes symbols bits qs e =
      let alike = provided (eqb (length symbols) (length bits)) (read_block x h (zip_with pair symbols bits)) 22 qs e in
      let long : length symbols ≡ length bits = eqb-true _ _ alike.0 in
      let r = read-block (zip_with pair symbols bits) qs alike.1 in
      record {
        writable = r.writable;
        same-symbols = sym (symbols-of x (block_tokens h qs)) ∙ ap (map (λ p. p.symbol)) r.same ∙ unzip-symbols symbols bits long;
        same_bits = sym (bits_of x (block_tokens h qs)) ∙ ap (map (λ p. p.bits)) r.same ∙ unzip-bits symbols bits long;
      }
