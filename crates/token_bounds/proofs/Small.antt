-- Small levels: they lie within bounds, and their tokens have symbols under any configuration. Assumes nothing.
use Prim.Native.Nat.{ℕ, zero, suc, ◌+◌, ◌-◌, ◌*◌, ◌≤◌, ◌<◌}
use mathlib.Core.Path.{◌≡◌, refl, ap, ◌∙◌}
use mathlib.Core.Bool.{Bool, true, false, cond}
use mathlib.Core.List.{List, [], ◌∷◌}
use native.Mathlib.Omega.{arith}
use borrow.Author.Tests.{leb-true, le-leb, lt-ltb}
use lib.Dec.{eqb, leb}
use lib.IntN.{ℤ, pos, negsuc, nat_abs}
use lib.ListN.{length, get_or}
use Rattle.block.specs.Block.{nonzeros_among}
use Rattle.block.specs.declared.Shape.{Shape}
use Rattle.coding.specs.Coding as Coding
use Rattle.laws.specs.Refusals.{first_refused}
use Rattle.least_cost.specs.Position.{nz}
use Rattle.packing.specs.Signed.{pack_signed}
use Rattle.packing.specs.declared.Split.{Split}
use Rattle.packing.proofs.Hybrid.{small-symbol}
use Rattle.prices.specs.Book.{cluster_symbol}
use Rattle.prices.specs.Checks.{each}
use Rattle.prices.proofs.Each.{each_below}
use Rattle.scan.specs.Scan.{level_at}
use Rattle.block_tokens.specs.Tokens.{Token, covered_by, level_context, nonzeros_of, level_tokens, block_tokens, levels_from, coded_levels}
use Rattle.block_tokens.specs.Code.{Code, code_of, symbol_in}
use Rattle.block_tokens.specs.Writing.{all_within, all_coded}
use Rattle.block_tokens.specs.Passed.{Scanned}
use Rattle.block_tokens.proofs.Passed.{codes-valid}
use Rattle.token_steps.specs.Steps.{Numbered, SplitIn}
use Rattle.token_steps.specs.declared.layout.LayoutNumbers.{LayoutNumbers}
use Rattle.token_steps.proofs.Walk.{at-start, count-coded, count-fails}
use Rattle.token_bounds.specs.Bounds.{levels_refusal}

-- each level of a list is within ±63
abbrev Small : List ℤ → Type 0
Small qs = (i : ℕ) → i < length qs → nat_abs (get_or qs i (pos 0)) ≤ 63

rest-small : (q : ℤ) (qs : List ℤ) → Small (q ∷ qs) → Small qs
rest-small q qs s i l = s (suc i) (omega arith)

packed-small : (q : ℤ) → nat_abs q ≤ 63 → pack_signed q < 128
unfolding pack_signed
packed-small (pos n) h = omega arith
packed-small (negsuc n) h = omega arith

pub small-within : (qs : List ℤ) → Small qs → all_within qs ≡ true
unfolding all_within
small-within [] s = refl
small-within (q ∷ qs) s = simp (le-leb (nat_abs q) 32768 (omega (arith, s 0 (omega arith))), small-within qs (rest-small q qs s))

module _ {map configs : List ℕ} (k : Coding.Coded map configs) where
  symbol-small : (t : Token) → t.value < 128 → symbol_in (code_of map configs) t < 128
  unfolding symbol_in cluster_symbol
  symbol-small t h = small-symbol _ _ _ t.value (codes-valid k.codes t.context) h

  pub small-coded : (h : Shape) (j prev : ℕ) (qs : List ℤ) → Small qs → all_coded (code_of map configs) (level_tokens h j prev qs) ≡ true
  unfolding level_tokens all_coded
  small-coded h j prev [] s = refl
  small-coded h j prev (q ∷ qs) s = go (eqb (nonzeros_of (q ∷ qs)) 0) (small-coded h (suc j) (nz q) qs (rest-small q qs s))
    where
      token : Token
      token = record { context = level_context h (nonzeros_of (q ∷ qs)) j prev; value = pack_signed q }

      go : (b : Bool) → all_coded (code_of map configs) (level_tokens h (suc j) (nz q) qs) ≡ true
          → all_coded (code_of map configs) (cond b [] (token ∷ level_tokens h (suc j) (nz q) qs)) ≡ true
      go true r = refl
      go false r = simp (lt-ltb _ 128 (symbol-small token (packed-small q (s 0 (omega arith)))), r)

-- the levels from scan position c on, where all are small
module _ (h : Shape) (scan : List ℕ) (levels : List ℤ) (scanned : Scanned h scan levels) (all : each (length levels) (λ i. leb (nat_abs (get_or levels i (pos 0))) 63) ≡ true) where
  small_at : (k : ℕ) → k < 64 * covered_by h → nat_abs (level_at scan levels k) ≤ 63
  unfolding level_at
  small_at k l = leb-true _ _ (each_below (λ i. leb (nat_abs (get_or levels i (pos 0))) 63) (length levels) all _ (omega (arith, scanned.order.bound k l, scanned.long)))

  from-small : (k n : ℕ) → k + n ≤ 64 * covered_by h → Small (levels_from scan levels k n)
  unfolding levels_from
  from-small k zero f i l = absurd (omega arith)
  from-small k (suc n) f zero l = small_at k (omega arith)
  from-small k (suc n) f (suc i) l = from-small (suc k) n (omega arith) i (omega arith)

  pub coded-small : Small (coded_levels h scan levels)
  unfolding coded_levels
  coded-small = from-small (covered_by h) (63 * covered_by h) (omega arith)

-- ---- the answers

module _ (x : Code) (h : Shape) (scan : List ℕ) (levels : List ℤ) where
  abbrev qs : List ℤ
  qs = coded_levels h scan levels

  pub at24 : all_within qs ≡ false → 24 ≡ levels_refusal x h qs
  unfolding levels_refusal first_refused
  at24 e = rw e

  module _ (within : all_within qs ≡ true) where
    pub at20 : all_coded x (block_tokens h qs) ≡ false → 20 ≡ levels_refusal x h qs
    unfolding levels_refusal first_refused
    at20 e = rw (within, e)

    pub none : all_coded x (block_tokens h qs) ≡ true → 0 ≡ levels_refusal x h qs
    unfolding levels_refusal first_refused
    none e = rw (within, e)

-- where all levels are small the count alone decides
module _ {map configs : List ℕ} (k : Coding.Coded map configs) {h : Shape} {p : LayoutNumbers} (laid : Numbered h p) {scan : List ℕ} {levels : List ℤ} (scanned : Scanned h scan levels)
    (all : each (length levels) (λ i. leb (nat_abs (get_or levels i (pos 0))) 63) ≡ true)
    {count : ℕ} (counted : count ≡ nonzeros_among scan levels p.covered (length scan - p.covered))
    (r : Split) (split : SplitIn (code_of map configs) (record { context = p.count_context; value = count }) r) where
  within : all_within (coded_levels h scan levels) ≡ true
  within = small-within _ (coded-small h scan levels scanned all)

  pub small-refused : 127 < r.symbol → 20 ≡ levels_refusal (code_of map configs) h (coded_levels h scan levels)
  small-refused high = at20 _ h scan levels within (count-fails laid scanned counted _ r split high)

  pub small-passes : r.symbol ≤ 127 → 0 ≡ levels_refusal (code_of map configs) h (coded_levels h scan levels)
  small-passes low =
      let a = at-start laid scanned counted _ refl in
      none _ h scan levels within
      (count-coded laid scanned counted _ r split low
      ∙ ap (all_coded (code_of map configs)) a.tokens
      ∙ small-coded k h _ _ _ (from-small h scan levels scanned all p.covered (64 * covered_by h - p.covered) (omega (arith, a.to))))
