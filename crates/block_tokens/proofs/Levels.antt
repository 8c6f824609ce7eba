-- What is read of the levels from a scan position on is what was written of them, and the other way round. Assumes nothing.
use Prim.Native.Nat.{ℕ, zero, suc, ◌-◌, ◌*◌, ◌≤◌}
use mathlib.Core.Path.{◌≡◌, refl, ap₂}
use mathlib.Core.Bool.{Bool, true, false, cond, ◌&&◌, false≢true}
use mathlib.Core.List.{List, [], ◌∷◌, map}
use native.Mathlib.Omega.{arith}
use native.Mathlib.Nat.{le_trans}
use borrow.Author.Tests.{eqb-true, eqb-false, eq-eqb, ne_eqb, ltb-true, ltb-false, lt-ltb, le-ltb, leb-true, le-leb}
use lib.Dec.{eqb, leb, ltb}
use lib.IntN.{ℤ, pos, nat_abs}
use lib.ListN.{length, replicate, length-replicate}
use Rattle.block.specs.declared.Shape.{Shape}
use Rattle.least_cost.specs.Position.{nz}
use Rattle.least_cost.specs.Choice.{remaining}
use Rattle.packing.specs.Signed.{pack_signed, unpack_signed}
use Rattle.packing.proofs.Signed.{unpack-pack, pack-unpack, packed-small}
use Rattle.block_tokens.specs.Tokens.{Token, covered_by, level_context, nonzeros_of, level_tokens}
use Rattle.block_tokens.specs.Code.{Code, symbol_in}
use Rattle.block_tokens.specs.Writing.{all_within, all_coded}
use Rattle.block_tokens.specs.Reading.{Pair, pair_of, splits_in, value_in, Reading, Levels, Refused, before, read_levels}
use Rattle.block_tokens.proofs.Counts.{nz-most, nonzeros-most, all-zero, zeros-none, unpacked-small}
use Rattle.block_tokens.proofs.Pairs.{Within, pair_read, read-pair}

pub both : (a b : Bool) → a && b ≡ true → (a ≡ true) × (b ≡ true)
both true b e = (refl, e)
both false b e = absurd (false≢true e)

-- ---- a reading that is no refusal, taken apart

pub unless : (t : Bool) (r : Reading) (n : ℕ) (qs : List ℤ) → cond t (Refused n) r ≡ Levels qs → (t ≡ false) × (r ≡ Levels qs)
unless true r n qs e = let z : ◌≡◌ {A = ℕ} 0 1 = cc in absurd (omega arith)
unless false r n qs e = (refl, e)

pub provided : (t : Bool) (r : Reading) (n : ℕ) (qs : List ℤ) → cond t r (Refused n) ≡ Levels qs → (t ≡ true) × (r ≡ Levels qs)
provided true r n qs e = (refl, e)
provided false r n qs e = let z : ◌≡◌ {A = ℕ} 0 1 = cc in absurd (omega arith)

pub record Behind (q : ℤ) (r : Reading) (qs : List ℤ) : Type 0 where
  pub rest : List ℤ
  pub read : r ≡ Levels rest
  pub whole : qs ≡ q ∷ rest

pub behind : (q : ℤ) (r : Reading) (qs : List ℤ) → before q r ≡ Levels qs → Behind q r qs
unfolding before
behind q (Levels rest) qs e = record { rest = rest; read = refl; whole = cc }
behind q (Refused n) qs e = let z : ◌≡◌ {A = ℕ} 0 1 = cc in absurd (omega arith)

-- where nothing remains there is no token
pub no-tokens : (h : Shape) (k prev : ℕ) (qs : List ℤ) → nonzeros_of qs ≡ 0 → level_tokens h k prev qs ≡ []
unfolding level_tokens
no-tokens h k prev [] e = refl
no-tokens h k prev (q ∷ qs) e = rw (eq-eqb (nonzeros_of (q ∷ qs)) 0 e)

-- where some remain the first level has one
pub next-token : (h : Shape) (k prev owed : ℕ) (q : ℤ) (qs : List ℤ) → nonzeros_of (q ∷ qs) ≡ owed → (owed ≡ 0 → ⊥)
    → level_tokens h k prev (q ∷ qs) ≡ record { context = level_context h owed k prev; value = pack_signed q } ∷ level_tokens h (suc k) (nz q) qs
unfolding level_tokens
next-token h k prev owed q qs e some = rw (e, ne_eqb owed 0 some)

zeros_within : (n : ℕ) → all_within (replicate n (pos 0)) ≡ true
unfolding all_within
zeros_within zero = refl
zeros_within (suc n) = zeros_within n

module _ {x : Code} (within : Within x) (h : Shape) where
  -- ---- what was written is read

  pub levels-read : (k prev : ℕ) (qs : List ℤ) → length qs ≡ 64 * covered_by h - k → all_within qs ≡ true
      → all_coded x (level_tokens h k prev qs) ≡ true
      → read_levels x h k prev (nonzeros_of qs) (map (pair_of x) (level_tokens h k prev qs)) ≡ Levels qs
  unfolding level_tokens read_levels all_within all_coded before remaining
  levels-read k prev [] long small few = rw (← long)
  levels-read k prev (q ∷ qs) long small few =
      go (eqb left 0) refl few (λ c. levels-read (suc k) (nz q) qs (omega arith) (both (leb (nat_abs q) 32768) (all_within qs) small).1 c)
    where
      left : ℕ
      left = nonzeros_of (q ∷ qs)

      token : Token
      token = record { context = level_context h left k prev; value = pack_signed q }

      rest : List Token
      rest = level_tokens h (suc k) (nz q) qs

      go : (b : Bool) → eqb left 0 ≡ b → all_coded x (cond b [] (token ∷ rest)) ≡ true
          → (all_coded x rest ≡ true → read_levels x h (suc k) (nz q) (nonzeros_of qs) (map (pair_of x) rest) ≡ Levels qs)
          → read_levels x h k prev left (map (pair_of x) (cond b [] (token ∷ rest))) ≡ Levels (q ∷ qs)
      go true e c r =
          let none : left ≡ 0 = eqb-true _ _ e in
          rw (e, ← long, ← all-zero (q ∷ qs) none)
      go false e c r =
          let some : (left ≡ 0 → ⊥) = eqb-false _ _ e in
          let most : left ≤ 64 * covered_by h - k = le_trans (nonzeros-most (q ∷ qs)) (omega arith) in
          let packed : pack_signed q ≤ 65536 = packed-small q (leb-true _ _ (both (leb (nat_abs q) 32768) (all_within qs) small).0) in
          let p = pair_read within token (le_trans packed (omega arith)) (ltb-true _ _ (both (ltb (symbol_in x token) 128) (all_coded x rest) c).0) in
          let more : left - nz q ≡ nonzeros_of qs = omega arith in
          let behind = r (both (ltb (symbol_in x token) 128) (all_coded x rest) c).1 in
          simp (e, le-ltb (64 * covered_by h - k) left most, p.splits, p.value, le-leb (pack_signed q) 65536 packed, unpack-pack q, more, behind)

  -- ---- what is read was written

  -- the pairs are those of the levels qs from scan position k on, and the writer would not refuse these
  pub record LevelsOf (k prev owed : ℕ) (ps : List Pair) (qs : List ℤ) : Type 0 where
    pub long : length qs ≡ 64 * covered_by h - k
    pub count : nonzeros_of qs ≡ owed
    pub small : all_within qs ≡ true
    pub few : all_coded x (level_tokens h k prev qs) ≡ true
    pub same : map (pair_of x) (level_tokens h k prev qs) ≡ ps

  zeros_of : (k prev : ℕ) → LevelsOf k prev 0 [] (replicate (64 * covered_by h - k) (pos 0))
  unfolding all_coded
  zeros_of k prev =
      let none = zeros-none (64 * covered_by h - k) in
      let tokens = no-tokens h k prev _ none in
      record {
        long = length-replicate _ _;
        count = none;
        small = zeros_within (64 * covered_by h - k);
        few = rw tokens;
        same = rw tokens;
      }

  -- one pair more in front
  module _ (k prev owed : ℕ) (p : Pair) (ps : List Pair) (rest : List ℤ) where
    abbrev value : ℕ
    value = value_in x (level_context h owed k prev) p

    one_more : (owed ≡ 0 → ⊥) → owed ≤ 64 * covered_by h - k → splits_in x (level_context h owed k prev) p ≡ true → value ≤ 65536
        → LevelsOf (suc k) (nz (unpack_signed value)) (owed - nz (unpack_signed value)) ps rest
        → LevelsOf k prev owed (p ∷ ps) (unpack_signed value ∷ rest)
    unfolding remaining all_within all_coded
    one_more some most splits fits r =
        let taken = read-pair within (level_context h owed k prev) p splits in
        let count : nonzeros_of (unpack_signed value ∷ rest) ≡ owed = omega (arith, r.count, nz-most (unpack_signed value)) in
        let tokens = next-token h k prev owed (unpack_signed value) rest count some in
        record {
          long = omega (arith, r.long);
          count = count;
          small = simp (le-leb _ _ (unpacked-small value fits), r.small);
          few = rw (tokens, pack-unpack value) (simp (lt-ltb _ _ taken.low, r.few));
          same = rw (tokens, pack-unpack value) (ap₂ ◌∷◌ taken.same r.same);
        }

  pub read-levels : (k prev owed : ℕ) (ps : List Pair) (qs : List ℤ) → read_levels x h k prev owed ps ≡ Levels qs → LevelsOf k prev owed ps qs
  unfolding read_levels
  read-levels k prev owed [] qs e = go (eqb owed 0) refl e
    where
      go : (b : Bool) → eqb owed 0 ≡ b
          → cond b (Levels (replicate (64 * covered_by h - k) (pos 0))) (cond (ltb (64 * covered_by h - k) owed) (Refused 25) (Refused 22)) ≡ Levels qs
          → LevelsOf k prev owed [] qs
      go true d f =
          let none : owed ≡ 0 = eqb-true _ _ d in
          let zeros : qs ≡ replicate (64 * covered_by h - k) (pos 0) = cc in
          rw (zeros, none) (zeros_of k prev)
      go false d f = let z : ◌≡◌ {A = ℕ} 0 1 = let g = (unless (ltb (64 * covered_by h - k) owed) (Refused 22) 25 qs f).1 in cc in absurd (omega arith)
  read-levels k prev owed (p ∷ ps) qs e =
      let at = level_context h owed k prev in
      let q = unpack_signed (value_in x at p) in
      let later = read_levels x h (suc k) (nz q) (owed - nz q) ps in
      let ranged = cond (leb (value_in x at p) 65536) (before q later) (Refused 24) in
      let coded = cond (splits_in x at p) ranged (Refused 20) in
      let owing = unless (eqb owed 0) (cond (ltb (64 * covered_by h - k) owed) (Refused 25) coded) 22 qs e in
      let placed = unless (ltb (64 * covered_by h - k) owed) coded 25 qs owing.1 in
      let split = provided (splits_in x at p) ranged 20 qs placed.1 in
      let level = provided (leb (value_in x at p) 65536) (before q later) 24 qs split.1 in
      let next = behind q later qs level.1 in
      rw next.whole
      (one_more k prev owed p ps next.rest (eqb-false _ _ owing.0) (ltb-false _ _ placed.0) split.0 (leb-true _ _ level.0)
      (read-levels (suc k) (nz q) (owed - nz q) ps next.rest next.read))
