-- The reader's second pass: at each scan position while levels are owed the value read is the level there. Assumes nothing.
use Prim.Native.Nat.{ℕ, zero, suc, ◌+◌, ◌-◌, ◌*◌, ◌/◌, ◌≤◌, ◌<◌}
use mathlib.Core.Path.{◌≡◌, refl, sym, ap, ◌∙◌}
use mathlib.Core.Bool.{Bool, true, false, cond}
use mathlib.Core.List.{List, [], ◌∷◌, zip_with}
use native.Mathlib.Omega.{arith}
use native.Mathlib.Nat.{add-zero}
use native.Mathlib.Numerals.{add-one}
use borrow.Author.Tests.{eqb-true, eq-eqb, ltb-true, ltb-false, leb-true}
use lib.Dec.{eqb, leb, ltb}
use lib.IntN.{ℤ, pos}
use lib.ListN.{length, get_or, set, drop, replicate}
use lib.Seq.{drop-drop, get_or-drop}
use Rattle.ac_context.specs.Contexts.{Coefficient}
use Rattle.block.specs.declared.Shape.{Shape}
use Rattle.least_cost.specs.Position.{nz}
use Rattle.packing.specs.Signed.{unpack_signed}
use Rattle.scan.specs.Scan.{put}
use Rattle.scan.proofs.Through.{put-more}
use Rattle.block_tokens.specs.Tokens.{covered_by, count_context, prev_by, level_context}
use Rattle.block_tokens.specs.Code.{Code}
use Rattle.block_tokens.specs.Reading.{Pair, pair, splits_in, value_in, Levels, Refused, before, read_levels, read_block, read_tokens}
use Rattle.block_tokens.proofs.Counts.{nz-most}
use Rattle.block_tokens.proofs.Levels.{unless, provided, behind}
use Rattle.token_read.proofs.Refusals.{drop-pairs, drop-none}

-- the pairs ps are those of the levels rest, from scan position k on
module _ (x : Code) (h : Shape) (k prev owed : ℕ) (rest : List ℤ) where
  -- Nothing owed: the levels are 0.
  zeros : (ps : List Pair) → owed ≡ 0 → read_levels x h k prev owed ps ≡ Levels rest → rest ≡ replicate (64 * covered_by h - k) (pos 0)
  unfolding read_levels
  zeros [] none e = let f = rw (eq-eqb owed 0 none) at e in cc
  zeros (p ∷ ps) none e = let f = rw (eq-eqb owed 0 none) at e in let z : ◌≡◌ {A = ℕ} 0 1 = cc in absurd (omega arith)

  -- Some owed: the first pair is the first level's ..
  record First (p : Pair) (ps : List Pair) : Type 0 where
    most : owed ≤ 64 * covered_by h - k
    splits : splits_in x (level_context h owed k prev) p ≡ true
    small : value_in x (level_context h owed k prev) p ≤ 65536
    later : List ℤ
    there : read_levels x h (k + 1) (nz (unpack_signed (value_in x (level_context h owed k prev) p))) (owed - nz (unpack_signed (value_in x (level_context h owed k prev) p))) ps ≡ Levels later
    whole : rest ≡ unpack_signed (value_in x (level_context h owed k prev) p) ∷ later

  one : (p : Pair) (ps : List Pair) → read_levels x h k prev owed (p ∷ ps) ≡ Levels rest → First p ps
  unfolding read_levels
  one p ps e =
      let at = level_context h owed k prev in
      let q = unpack_signed (value_in x at p) in
      let later = read_levels x h (suc k) (nz q) (owed - nz q) ps in
      let ranged = cond (leb (value_in x at p) 65536) (before q later) (Refused 24) in
      let coded = cond (splits_in x at p) ranged (Refused 20) in
      let owing = unless (eqb owed 0) (cond (ltb (64 * covered_by h - k) owed) (Refused 25) coded) 22 rest e in
      let placed = unless (ltb (64 * covered_by h - k) owed) coded 25 rest owing.1 in
      let split = provided (splits_in x at p) ranged 20 rest placed.1 in
      let level = provided (leb (value_in x at p) 65536) (before q later) 24 rest split.1 in
      let next = behind q later rest level.1 in
      record {
        most = ltb-false _ _ placed.0;
        splits = split.0;
        small = leb-true _ _ level.0;
        later = next.rest;
        there = ap (λ (n : ℕ). read_levels x h n (nz q) (owed - nz q) ps) (add-one k) ∙ next.read;
        whole = next.whole;
      }

  -- .. and there is one.
  some_pair : (owed ≡ 0 → ⊥) → read_levels x h k prev owed [] ≡ Levels rest → ⊥
  unfolding read_levels
  some_pair ne e = go (eqb owed 0) (ltb (64 * covered_by h - k) owed) refl e
    where
      go : (a b : Bool) → eqb owed 0 ≡ a → cond a (Levels (replicate (64 * covered_by h - k) (pos 0))) (cond b (Refused 25) (Refused 22)) ≡ Levels rest → ⊥
      go true b d f = ne (eqb-true _ _ d)
      go false true d f = let z : ◌≡◌ {A = ℕ} 0 1 = cc in omega arith
      go false false d f = let z : ◌≡◌ {A = ℕ} 0 1 = cc in omega arith

-- ---- the walk

zero_at : (n i : ℕ) → get_or (replicate n (pos 0)) i (pos 0) ≡ pos 0
zero_at zero zero = refl
zero_at zero (suc i) = refl
zero_at (suc n) zero = refl
zero_at (suc n) (suc i) = zero_at n i

module _ (x : Code) (h : Shape) (symbols bits : List ℕ) (qs : List ℤ) where
  abbrev pairs : List Pair
  pairs = zip_with pair symbols bits

  -- what the second pass knows at scan position k with i pairs read: what is left to read gives what is left of the levels
  pub record Restores (k prev owed i : ℕ) : Type 0 where
    pub from : covered_by h ≤ k
    pub to : k ≤ 64 * covered_by h
    pub flag : prev ≤ 1
    pub place : i + covered_by h ≡ k + 1
    pub read : read_levels x h k prev owed (drop i pairs) ≡ Levels (drop (k - covered_by h) qs)

  module _ (k prev owed i : ℕ) (r : Restores k prev owed i) where
    level-at : (j : ℕ) → get_or (drop (k - covered_by h) qs) j (pos 0) ≡ get_or qs (k - covered_by h + j) (pos 0)
    level-at j = get_or-drop (k - covered_by h) qs j (pos 0)

    -- nothing owed: all further levels are 0
    pub zeros-on : owed ≤ 0 → (j : ℕ) → k - covered_by h ≤ j → get_or qs j (pos 0) ≡ pos 0
    zeros-on none j l =
        let on : k - covered_by h + (j - (k - covered_by h)) ≡ j = omega arith in
        ap (λ (n : ℕ). get_or qs n (pos 0)) (sym on)
        ∙ sym (level-at (j - (k - covered_by h)))
        ∙ ap (λ (l : List ℤ). get_or l (j - (k - covered_by h)) (pos 0)) (zeros x h k prev owed (drop (k - covered_by h) qs) (drop i pairs) (omega arith) r.read)
        ∙ zero_at (64 * covered_by h - k) (j - (k - covered_by h))

    -- some owed: there is a pair
    pub inside : 0 < owed → i < length symbols
    inside some = go (ltb i (length symbols)) refl
      where
        go : (b : Bool) → ltb i (length symbols) ≡ b → i < length symbols
        go true e = ltb-true _ _ e
        go false e =
            absurd (some_pair x h k prev owed (drop (k - covered_by h) qs) (λ d. omega arith) (rw (drop-none symbols bits i (ltb-false _ _ e)) at r.read))

    module _ (alike : length symbols ≡ length bits) (some : 0 < owed) where
      abbrev here : Pair
      here = pair (get_or symbols i 0) (get_or bits i 0)

      first : First x h k prev owed (drop (k - covered_by h) qs) here (drop (i + 1) pairs)
      first = one x h k prev owed (drop (k - covered_by h) qs) _ _ (rw (drop-pairs symbols bits i alike (inside some)) at r.read)

      pub below : k < 64 * covered_by h
      below = omega (arith, first.most)

      pub coefficient : Coefficient (covered_by h) owed k prev
      coefficient = record { some = some; left = omega (arith, first.most); coded = r.from; flag = omega (arith, r.flag) }

      -- the value v is the level's at k, and on
      pub record Level (v : ℕ) : Type 0 where
        pub small : v ≤ 65536
        pub level : get_or qs (k - covered_by h) (pos 0) ≡ unpack_signed v
        pub there : Restores (k + 1) (nz (unpack_signed v)) (owed - nz (unpack_signed v)) (i + 1)

      pub splits : splits_in x (level_context h owed k prev) here ≡ true
      splits = first.splits

      pub level : (v : ℕ) → v ≡ value_in x (level_context h owed k prev) here → Level v
      level v same =
          let on : k + 1 - covered_by h ≡ k - covered_by h + 1 = omega (arith, r.from) in
          let levels-on : drop (k + 1 - covered_by h) qs ≡ first.later = rw on (sym (drop-drop 1 (k - covered_by h) qs) ∙ ap (drop 1) first.whole) in
          let at-k : get_or qs (k - covered_by h) (pos 0) ≡ unpack_signed (value_in x (level_context h owed k prev) here) =
          ap (λ (n : ℕ). get_or qs n (pos 0)) (sym (add-zero (k - covered_by h))) ∙ sym (level-at 0) ∙ ap (λ (l : List ℤ). get_or l 0 (pos 0)) first.whole
          in
          rw same
          (record {
            small = first.small;
            level = at-k;
            there = record {
              from = omega (arith, r.from);
              to = omega (arith, below);
              flag = nz-most _;
              place = omega (arith, r.place);
              read = rw levels-on first.there;
            };
          })

-- ---- the start

pub record Started (x : Code) (h : Shape) (symbols bits : List ℕ) (qs : List ℤ) (count : ℕ) : Type 0 where
  pub alike : length symbols ≡ length bits
  pub some : 0 < length symbols
  pub splits : splits_in x (count_context h) (pair (get_or symbols 0 0) (get_or bits 0 0)) ≡ true
  pub most : count ≤ 63 * covered_by h
  pub at : Restores x h symbols bits qs (covered_by h) (prev_by h count) count 1

flag-most : (b : Bool) → cond b 1 0 ≤ 1
flag-most true = omega arith
flag-most false = omega arith

pub started : (x : Code) (h : Shape) (symbols bits : List ℕ) (qs : List ℤ) → read_tokens x h symbols bits ≡ Levels qs
    → Started x h symbols bits qs (value_in x (count_context h) (pair (get_or symbols 0 0) (get_or bits 0 0)))
unfolding read_tokens read_block zip_with prev_by
started x h [] [] qs e = let z : ◌≡◌ {A = ℕ} 0 1 = cc in absurd (omega arith)
started x h [] (b ∷ bits) qs e = let n : 0 ≡ length (b ∷ bits) = eqb-true _ _ (provided (eqb 0 (length (b ∷ bits))) (Refused 22) 22 qs e).0 in absurd (omega arith)
started x h (a ∷ symbols) [] qs e = let n : length (a ∷ symbols) ≡ 0 = eqb-true _ _ (provided (eqb (length (a ∷ symbols)) 0) (Refused 22) 22 qs e).0 in absurd (omega arith)
started x h (a ∷ symbols) (b ∷ bits) qs e =
    let p = pair a b in
    let count = value_in x (count_context h) p in
    let later = read_levels x h (covered_by h) (prev_by h count) count (zip_with pair symbols bits) in
    let ranged = cond (leb count (63 * covered_by h)) later (Refused 21) in
    let same = provided (eqb (length (a ∷ symbols)) (length (b ∷ bits))) (cond (splits_in x (count_context h) p) ranged (Refused 20)) 22 qs e in
    let split = provided (splits_in x (count_context h) p) ranged 20 qs same.1 in
    let fits = provided (leb count (63 * covered_by h)) later 21 qs split.1 in
    let none : covered_by h - covered_by h ≡ 0 = omega arith in
    record {
      alike = eqb-true _ _ same.0;
      some = omega arith;
      splits = split.0;
      most = leb-true _ _ fits.0;
      at = record { from = omega arith; to = omega arith; flag = flag-most (leb count (64 * covered_by h / 16)); place = omega arith; read = rw none fits.1 };
    }

-- ---- the levels written

-- a list whose levels from a on are 0 is put by its first a and zeros
pub put-zeros : (scan : List ℕ) (qs : List ℤ) (from a n : ℕ) (old : List ℤ) → ((i : ℕ) → a ≤ i → get_or qs i (pos 0) ≡ pos 0)
    → put scan [] (from + a) n (put scan qs from a old) ≡ put scan qs from (a + n) old
unfolding put
put-zeros scan qs from a zero old z = ap (λ (m : ℕ). put scan qs from m old) (sym (add-zero a))
put-zeros scan qs from a (suc n) old z =
    let on : a + suc n ≡ suc (a + n) = omega arith in
    let place : from + a + n ≡ from + (a + n) = omega arith in
    rw (on, place, put-zeros scan qs from a n old z, z (a + n) (omega arith))

-- one level more is put
pub put_on : (scan : List ℕ) (qs : List ℤ) (from k : ℕ) (old now after : List ℤ) (v : ℤ) → from ≤ k → now ≡ put scan qs from (k - from) old → after ≡ set now (get_or scan k 0) v
    → v ≡ get_or qs (k - from) (pos 0) → after ≡ put scan qs from (k + 1 - from) old
put_on scan qs from k old now after v l e a ev =
    let on : k + 1 - from ≡ k - from + 1 = omega arith in
    let at : from + (k - from) ≡ k = omega arith in
    a ∙ rw (on, put-more scan qs from (k - from) old, at, e, ev)

-- what is known at scan position k, with i pairs read
pub record At (x : Code) (h : Shape) (scan symbols bits : List ℕ) (old : List ℤ) (qs levels : List ℤ) (k prev owed i : ℕ) : Type 0 where
  pub alike : length symbols ≡ length bits
  pub rest : Restores x h symbols bits qs k prev owed i
  pub put_there : levels ≡ put scan qs (covered_by h) (k - covered_by h) old
