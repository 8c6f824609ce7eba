-- The reader's refusals, test by test, as the first pass makes them. Assumes nothing.
use Prim.Native.Nat.{ℕ, zero, suc, ◌+◌, ◌-◌, ◌*◌, ◌/◌, ◌≤◌, ◌<◌}
use mathlib.Core.Path.{◌≡◌, refl, sym, ◌∙◌}
use mathlib.Core.Bool.{Bool, true, false, cond, not}
use mathlib.Core.List.{List, [], ◌∷◌, zip_with}
use native.Mathlib.Omega.{arith}
use native.Mathlib.Numerals.{add-one}
use borrow.Author.Tests.{eq-eqb, ne_eqb, lt-ltb, le-ltb, le-leb, lt-leb}
use lib.Dec.{eqb, leb}
use mir.Val.{bool_byte}
use lib.IntN.{ℤ, pos, negsuc}
use lib.ListN.{length, get_or, drop}
use Rattle.block.specs.declared.Shape.{Shape}
use Rattle.least_cost.specs.Position.{nz}
use Rattle.packing.specs.Signed.{unpack_signed}
use Rattle.packing.proofs.Signed.{pack-unpack}
use Rattle.packing.specs.Signed.{pack_signed}
use Rattle.block_tokens.specs.Tokens.{covered_by, count_context, level_context, prev_by}
use Rattle.block_tokens.specs.Code.{Code}
use Rattle.block_tokens.specs.Reading.{Pair, pair, splits_in, value_in, Reading, Levels, Refused, before, read_levels, read_block, read_tokens}
use Rattle.token_read.specs.Passes.{refusal_of}
use Rattle.block_tokens.proofs.Counts.{nz-most}

-- ---- the two lists as pairs

pub drop-pairs : (xs ys : List ℕ) (i : ℕ) → length xs ≡ length ys → i < length xs → drop i (zip_with pair xs ys) ≡ pair (get_or xs i 0) (get_or ys i 0) ∷ drop (i + 1) (zip_with pair xs ys)
unfolding zip_with
drop-pairs [] ys i e l = absurd (omega arith)
drop-pairs (a ∷ xs) [] i e l = absurd (omega arith)
drop-pairs (a ∷ xs) (b ∷ ys) zero e l = refl
drop-pairs (a ∷ xs) (b ∷ ys) (suc i) e l =
    let on : suc i + 1 ≡ suc (i + 1) = omega arith in
    rw on (drop-pairs xs ys i (omega arith) (omega arith))

pub drop-none : (xs ys : List ℕ) (i : ℕ) → length xs ≤ i → drop i (zip_with pair xs ys) ≡ []
unfolding zip_with
drop-none [] ys zero l = refl
drop-none [] ys (suc i) l = refl
drop-none (a ∷ xs) ys zero l = absurd (omega arith)
drop-none (a ∷ xs) [] (suc i) l = refl
drop-none (a ∷ xs) (b ∷ ys) (suc i) l = drop-none xs ys i (omega arith)

-- whether a value stands for a nonzero level
pub nz-value : (v : ℕ) → (v ≡ 0 → ⊥) → nz (unpack_signed v) ≡ 1
unfolding nz pack_signed
nz-value v ne = go (unpack_signed v) (pack-unpack v)
  where
    go : (q : ℤ) → pack_signed q ≡ v → nz q ≡ 1
    go (pos zero) e = absurd (ne (sym e))
    go (pos (suc n)) e = refl
    go (negsuc n) e = refl

pub zero-level : unpack_signed 0 ≡ pos 0
unfolding unpack_signed
zero-level = refl

pub nz-zero : nz (unpack_signed 0) ≡ 0
unfolding nz unpack_signed
nz-zero = refl

pub nonzero-byte : (v : ℕ) → bool_byte (not (eqb v 0)) ≡ nz (unpack_signed v)
unfolding nz unpack_signed
nonzero-byte zero = refl
nonzero-byte (suc n) = rw (ne_eqb (suc n) 0 (λ e. omega (arith, e))) (sym (nz-value (suc n) (λ e. omega (arith, e))))

-- ---- the levels

before-refusal : (q : ℤ) (r : Reading) → refusal_of (before q r) ≡ refusal_of r
unfolding before refusal_of
before-refusal q (Levels qs) = refl
before-refusal q (Refused n) = refl

module _ (x : Code) (h : Shape) (k prev owed : ℕ) where
  module _ (some : 0 < owed) where
    pub more-owed : (ps : List Pair) → 64 * covered_by h - k < owed → refusal_of (read_levels x h k prev owed ps) ≡ 25
    unfolding read_levels refusal_of
    more-owed [] l = rw (ne_eqb owed 0 (λ e. omega arith), lt-ltb _ owed l)
    more-owed (p ∷ ps) l = rw (ne_eqb owed 0 (λ e. omega arith), lt-ltb _ owed l)

    module _ (most : owed ≤ 64 * covered_by h - k) where
      pub none_left : refusal_of (read_levels x h k prev owed []) ≡ 22
      unfolding read_levels refusal_of
      none_left = rw (ne_eqb owed 0 (λ e. omega arith), le-ltb _ owed most)

      module _ (p : Pair) (ps : List Pair) where
        pub level-unsplit : splits_in x (level_context h owed k prev) p ≡ false → refusal_of (read_levels x h k prev owed (p ∷ ps)) ≡ 20
        unfolding read_levels refusal_of
        level-unsplit none = rw (ne_eqb owed 0 (λ e. omega arith), le-ltb _ owed most, none)

        module _ (splits : splits_in x (level_context h owed k prev) p ≡ true) {v : ℕ} (same : v ≡ value_in x (level_context h owed k prev) p) where
          pub level-beyond : 65536 < v → refusal_of (read_levels x h k prev owed (p ∷ ps)) ≡ 24
          unfolding read_levels refusal_of
          level-beyond g = rw (ne_eqb owed 0 (λ e. omega arith), le-ltb _ owed most, splits, ← same, lt-leb v 65536 g)

          pub level-next : v ≤ 65536 → refusal_of (read_levels x h k prev owed (p ∷ ps)) ≡ refusal_of (read_levels x h (k + 1) (nz (unpack_signed v)) (owed - nz (unpack_signed v)) ps)
          unfolding read_levels
          level-next l = rw (add-one k, ne_eqb owed 0 (λ e. omega arith), le-ltb _ owed most, splits, ← same, le-leb v 65536 l) (before-refusal _ _)

  pub left_over : owed ≤ 0 → (p : Pair) (ps : List Pair) → refusal_of (read_levels x h k prev owed (p ∷ ps)) ≡ 22
  unfolding read_levels refusal_of
  left_over none p ps = rw (eq-eqb owed 0 (omega arith))

  pub all_read : owed ≤ 0 → refusal_of (read_levels x h k prev owed []) ≡ 0
  unfolding read_levels refusal_of
  all_read none = rw (eq-eqb owed 0 (omega arith))

-- ---- the count

module _ (x : Code) (h : Shape) (symbols bits : List ℕ) where
  pub unequal : (length symbols ≡ length bits → ⊥) → refusal_of (read_tokens x h symbols bits) ≡ 22
  unfolding read_tokens refusal_of
  unequal ne = rw (ne_eqb _ _ ne)

  module _ (alike : length symbols ≡ length bits) where
    pub empty : length symbols ≡ 0 → refusal_of (read_tokens x h symbols bits) ≡ 22
    unfolding read_tokens read_block refusal_of
    empty e = rw (eq-eqb _ _ alike, drop-none symbols bits 0 (omega arith))

    module _ (some : 0 < length symbols) where
      abbrev first : Pair
      first = pair (get_or symbols 0 0) (get_or bits 0 0)

      pub count-unsplit : splits_in x (count_context h) first ≡ false → refusal_of (read_tokens x h symbols bits) ≡ 20
      unfolding read_tokens read_block refusal_of
      count-unsplit none = rw (eq-eqb _ _ alike, drop-pairs symbols bits 0 alike some, none)

      module _ (splits : splits_in x (count_context h) first ≡ true) {v : ℕ} (same : v ≡ value_in x (count_context h) first) where
        pub count-beyond : 63 * covered_by h < v → refusal_of (read_tokens x h symbols bits) ≡ 21
        unfolding read_tokens read_block refusal_of
        count-beyond g = rw (eq-eqb _ _ alike, drop-pairs symbols bits 0 alike some, splits, ← same, lt-leb v _ g)

        pub count_next : v ≤ 63 * covered_by h → refusal_of (read_tokens x h symbols bits) ≡ refusal_of (read_levels x h (covered_by h) (prev_by h v) v (drop 1 (zip_with pair symbols bits)))
        unfolding read_tokens read_block
        count_next g = rw (eq-eqb _ _ alike, drop-pairs symbols bits 0 alike some, splits, ← same, le-leb v _ g)

-- ---- the walk over the pairs

-- what the first pass knows at scan position k, with i pairs read
pub record Reads (x : Code) (h : Shape) (symbols bits : List ℕ) (k prev owed i : ℕ) : Type 0 where
  pub from : covered_by h ≤ k
  pub to : k ≤ 64 * covered_by h
  pub flag : prev ≤ 1
  pub index : i ≤ length symbols
  pub place : i + covered_by h ≡ k + 1
  pub same : refusal_of (read_tokens x h symbols bits) ≡ refusal_of (read_levels x h k prev owed (drop i (zip_with pair symbols bits)))

-- with the count read
pub begun : (x : Code) (h : Shape) (symbols bits : List ℕ) → length symbols ≡ length bits → 0 < length symbols → {v prev : ℕ}
    → splits_in x (count_context h) (pair (get_or symbols 0 0) (get_or bits 0 0)) ≡ true → v ≡ value_in x (count_context h) (pair (get_or symbols 0 0) (get_or bits 0 0)) → v ≤ 63 * covered_by h
    → prev ≡ cond (leb v (64 * covered_by h / 16)) 1 0 → Reads x h symbols bits (covered_by h) prev v 1
unfolding prev_by
begun x h symbols bits alike some {v} {prev} splits same most e =
    record {
      from = omega arith;
      to = omega arith;
      flag = rw e (flag (leb v (64 * covered_by h / 16)));
      index = some;
      place = omega arith;
      same = rw e (count_next x h symbols bits alike some splits same most);
    }
  where
    flag : (b : Bool) → cond b 1 0 ≤ 1
    flag true = omega arith
    flag false = omega arith

module _ (x : Code) (h : Shape) (symbols bits : List ℕ) (alike : length symbols ≡ length bits) (k prev owed i : ℕ) (r : Reads x h symbols bits k prev owed i) where
  pub left-over-22 : owed ≤ 0 → i < length symbols → 22 ≡ refusal_of (read_tokens x h symbols bits)
  left-over-22 none l = sym (r.same ∙ rw (drop-pairs symbols bits i alike l) (left_over x h k prev owed none _ _))

  pub all-read-0 : owed ≤ 0 → length symbols ≤ i → 0 ≡ refusal_of (read_tokens x h symbols bits)
  all-read-0 none l = sym (r.same ∙ rw (drop-none symbols bits i l) (all_read x h k prev owed none))

  module _ (some : 0 < owed) where
    pub owed-25 : 64 * covered_by h - k < owed → 25 ≡ refusal_of (read_tokens x h symbols bits)
    owed-25 l = sym (r.same ∙ more-owed x h k prev owed some _ l)

    module _ (most : owed ≤ 64 * covered_by h - k) where
      pub ended-22 : length symbols ≤ i → 22 ≡ refusal_of (read_tokens x h symbols bits)
      ended-22 l = sym (r.same ∙ rw (drop-none symbols bits i l) (none_left x h k prev owed some most))

      module _ (inside : i < length symbols) where
        abbrev here : Pair
        here = pair (get_or symbols i 0) (get_or bits i 0)

        pub unsplit-20 : splits_in x (level_context h owed k prev) here ≡ false → 20 ≡ refusal_of (read_tokens x h symbols bits)
        unsplit-20 none = sym (r.same ∙ rw (drop-pairs symbols bits i alike inside) (level-unsplit x h k prev owed some most _ _ none))

        module _ (splits : splits_in x (level_context h owed k prev) here ≡ true) {v : ℕ} (same : v ≡ value_in x (level_context h owed k prev) here) where
          pub beyond-24 : 65536 < v → 24 ≡ refusal_of (read_tokens x h symbols bits)
          beyond-24 g = sym (r.same ∙ rw (drop-pairs symbols bits i alike inside) (level-beyond x h k prev owed some most _ _ splits same g))

          pub on : v ≤ 65536 → Reads x h symbols bits (k + 1) (nz (unpack_signed v)) (owed - nz (unpack_signed v)) (i + 1)
          on l =
              record {
                from = omega (arith, r.from);
                to = omega (arith, r.to);
                flag = nz-most (unpack_signed v);
                index = omega arith;
                place = omega (arith, r.place);
                same = r.same ∙ rw (drop-pairs symbols bits i alike inside) (level-next x h k prev owed some most _ _ splits same l);
              }
