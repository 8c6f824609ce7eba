-- The walk over a block's tokens, as the loops make it: at scan position k, with `left` nonzero levels from there on. Assumes nothing.
use Prim.Native.Nat.{ℕ, zero, suc, ◌+◌, ◌-◌, ◌*◌, ◌/◌, ◌≤◌, ◌<◌, suc-le-suc}
use mathlib.Core.Path.{◌≡◌, refl, sym, ap, ap₂, ◌∙◌}
use mathlib.Core.Bool.{Bool, true, false, cond}
use mathlib.Core.List.{List, [], ◌∷◌}
use native.Mathlib.Omega.{arith}
use native.Mathlib.Numerals.{add-one}
use native.Mathlib.Nat.{add-zero}
use borrow.Author.Tests.{lt-ltb, le-ltb, leb-true}
use lib.Dec.{leb}
use lib.IntN.{ℤ, nat_abs}
use lib.ListN.{length, drop, length-drop}
use lib.Seq.{drop-drop}
use Rattle.ac_context.specs.Contexts.{Coefficient, zero_density_context}
use Rattle.block.specs.declared.Shape.{Shape}
use Rattle.block.specs.Block.{nonzeros_among}
use Rattle.least_cost.specs.Position.{nz}
use Rattle.least_cost.specs.Choice.{remaining}
use Rattle.packing.specs.Signed.{pack_signed}
use Rattle.packing.specs.declared.Split.{Split}
use Rattle.scan.specs.Scan.{level_at}
use Rattle.block_tokens.specs.Tokens.{Token, covered_by, count_context, level_context, prev_by, nonzeros_of, level_tokens, block_tokens, levels_from, coded_levels}
use Rattle.block_tokens.specs.Code.{Code, symbol_in}
use Rattle.block_tokens.specs.Writing.{all_within, all_coded}
use Rattle.block_tokens.specs.Passed.{Scanned}
use Rattle.token_steps.specs.Layout.{LaidOut}
use Rattle.token_steps.specs.Steps.{Numbered, HasToken, tokens_in, count_token, level_token, placed_token, SplitIn}
use Rattle.token_steps.specs.declared.layout.LayoutNumbers.{LayoutNumbers}
use Rattle.token_steps.specs.declared.coded.Coded.{Coded}
use Rattle.steps.proofs.Counting.{among-most}
use Rattle.block_tokens.proofs.Counts.{nz-most, nonzeros-most}
use Rattle.block_tokens.proofs.Levels.{both, no-tokens, next-token}
use Rattle.block_tokens.proofs.Through.{from-length}

pub from-count : (scan : List ℕ) (levels : List ℤ) (k n : ℕ) → nonzeros_of (levels_from scan levels k n) ≡ nonzeros_among scan levels k n
unfolding levels_from remaining nonzeros_among
from-count scan levels k zero = refl
from-count scan levels k (suc n) = ap (λ (m : ℕ). nz (level_at scan levels k) + m) (from-count scan levels (suc k) n)

pub from_first : (scan : List ℕ) (levels : List ℤ) (size k : ℕ) → k < size → levels_from scan levels k (size - k) ≡ level_at scan levels k ∷ levels_from scan levels (k + 1) (size - (k + 1))
unfolding levels_from
from_first scan levels size k h =
    let one : size - k ≡ suc (size - (k + 1)) = omega arith in
    rw (one, add-one)

-- the levels from scan position c on, by what the code holds of the shape
pub coded-from : (h : Shape) (scan : List ℕ) (levels : List ℤ) (c size : ℕ) → c ≡ covered_by h → size ≡ 64 * covered_by h → coded_levels h scan levels ≡ levels_from scan levels c (size - c)
unfolding coded_levels
coded-from h scan levels c size e f =
    let all : size - c ≡ 63 * covered_by h = omega arith in
    rw (all, e)

-- a level of those that the writer takes
pub small_at : (scan : List ℕ) (levels : List ℤ) (k n i : ℕ) → all_within (levels_from scan levels k n) ≡ true → i < n → nat_abs (level_at scan levels (k + i)) ≤ 32768
unfolding levels_from all_within
small_at scan levels k zero i e l = absurd (omega arith)
small_at scan levels k (suc n) zero e l = rw (add-zero k) (leb-true _ _ (both (leb (nat_abs (level_at scan levels k)) 32768) (all_within (levels_from scan levels (suc k) n)) e).0)
small_at scan levels k (suc n) (suc i) e l =
    let on : k + suc i ≡ suc k + i = omega arith in
    rw on (small_at scan levels (suc k) n i (both (leb (nat_abs (level_at scan levels k)) 32768) (all_within (levels_from scan levels (suc k) n)) e).1 (omega arith))

pub coded-small : (h : Shape) (scan : List ℕ) (levels : List ℤ) (k : ℕ) → all_within (coded_levels h scan levels) ≡ true → covered_by h ≤ k → k < 64 * covered_by h → nat_abs (level_at scan levels k) ≤ 32768
unfolding coded_levels
coded-small h scan levels k e from to =
    let on : covered_by h + (k - covered_by h) ≡ k = omega arith in
    rw on at (small_at scan levels (covered_by h) (63 * covered_by h) (k - covered_by h) e (omega arith))

module _ (h : Shape) (scan : List ℕ) (levels : List ℤ) where
  abbrev pub all_tokens : List Token
  all_tokens = block_tokens h (coded_levels h scan levels)

  -- how many tokens stand in front of scan position k's
  abbrev pub before : ℕ → ℕ
  before k = k + 1 - covered_by h

  abbrev pub rest : ℕ → List ℤ
  rest k = levels_from scan levels k (64 * covered_by h - k)

  pub record At (k prev left : ℕ) : Type 0 where
    pub from : covered_by h ≤ k
    pub to : k ≤ 64 * covered_by h
    pub flag : prev ≤ 1
    pub count : left ≡ nonzeros_of (rest k)
    pub tokens : drop (before k) all_tokens ≡ level_tokens h k prev (rest k)
    pub passed : before k ≤ length all_tokens

  pub at_first : (count prev : ℕ) → count ≡ nonzeros_among scan levels (covered_by h) (64 * covered_by h - covered_by h) → prev ≡ prev_by h count → At (covered_by h) prev count
  unfolding block_tokens coded_levels prev_by
  at_first count prev ec ep =
      let one : covered_by h + 1 - covered_by h ≡ 1 = omega arith in
      let size : 64 * covered_by h - covered_by h ≡ 63 * covered_by h = omega arith in
      let whole : count ≡ nonzeros_of (rest (covered_by h)) = ec ∙ sym (from-count scan levels (covered_by h) (64 * covered_by h - covered_by h)) in
      record {
        from = omega arith;
        to = omega arith;
        flag = rw ep (flag-most (leb count (64 * covered_by h / 16)));
        count = whole;
        tokens = rw (one, ep, whole, size);
        passed = rw one (omega arith);
      }
    where
      flag-most : (b : Bool) → cond b 1 0 ≤ 1
      flag-most true = omega arith
      flag-most false = omega arith

  -- what a token more needs, and where it leads
  pub record Next (k prev left : ℕ) : Type 0 where
    pub below : k < 64 * covered_by h
    pub coefficient : Coefficient (covered_by h) left k prev
    pub enough : nz (level_at scan levels k) ≤ left
    pub token : drop (before k) all_tokens ≡ record { context = level_context h left k prev; value = pack_signed (level_at scan levels k) } ∷ drop (before (k + 1)) all_tokens
    pub there : At (k + 1) (nz (level_at scan levels k)) (left - nz (level_at scan levels k))

  pub next : (k prev left : ℕ) → At k prev left → 0 < left → Next k prev left
  unfolding remaining
  next k prev left a some =
      let most : left ≤ 64 * covered_by h - k = omega (arith, a.count, nonzeros-most (rest k), from-length scan levels k (64 * covered_by h - k)) in
      let split : rest k ≡ level_at scan levels k ∷ rest (k + 1) = from_first scan levels (64 * covered_by h) k (omega arith) in
      let whole : nonzeros_of (level_at scan levels k ∷ rest (k + 1)) ≡ left = ap (remaining 0) (sym split) ∙ sym a.count in
      let step = next-token h k prev left (level_at scan levels k) (rest (k + 1)) whole (λ e. omega arith) in
      let here : drop (before k) all_tokens ≡ record { context = level_context h left k prev; value = pack_signed (level_at scan levels k) } ∷ level_tokens h (suc k) (nz (level_at scan levels k)) (rest (k + 1)) =
      a.tokens ∙ ap (level_tokens h k prev) split ∙ step
      in
      let on : before (k + 1) ≡ before k + 1 = omega (arith, a.from) in
      let behind : drop (before (k + 1)) all_tokens ≡ level_tokens h (suc k) (nz (level_at scan levels k)) (rest (k + 1)) =
      rw on (sym (drop-drop 1 (before k) all_tokens) ∙ ap (drop 1) here)
      in
      record {
        below = omega arith;
        coefficient = record { some = some; left = omega (arith, a.to); coded = a.from; flag = omega (arith, a.flag) };
        enough = omega arith;
        token = here ∙ ap (λ (ts : List Token). record { context = level_context h left k prev; value = pack_signed (level_at scan levels k) } ∷ ts) (sym behind);
        there = record {
          from = omega (arith, a.from);
          to = omega arith;
          flag = nz-most (level_at scan levels k);
          count = omega arith;
          tokens = behind ∙ ap (λ (n : ℕ). level_tokens h n (nz (level_at scan levels k)) (rest (k + 1))) (sym (add-one k));
          passed = omega (arith, sym (length-drop (before k) all_tokens) ∙ ap length here, a.passed);
        };
      }

  -- where nothing is left
  pub nothing_left : (k prev left : ℕ) → At k prev left → left ≤ 0 → drop (before k) all_tokens ≡ []
  nothing_left k prev left a none = a.tokens ∙ no-tokens h k prev (rest k) (omega (arith, a.count))

  pub at_last : (k prev left : ℕ) → At k prev left → left ≤ 0 → length all_tokens ≡ before k
  at_last k prev left a none = omega (arith, sym (length-drop (before k) all_tokens) ∙ ap length (nothing_left k prev left a none), a.passed)

  -- ---- the count's token

  pub first-token : (count : ℕ) → count ≡ nonzeros_of (coded_levels h scan levels) → all_tokens ≡ record { context = count_context h; value = count } ∷ drop (before (covered_by h)) all_tokens
  unfolding block_tokens
  first-token count e =
      let one : covered_by h + 1 - covered_by h ≡ 1 = omega arith in
      rw (one, e)

  pub coded-count : (c size count : ℕ) → c ≡ covered_by h → size ≡ 64 * covered_by h → count ≡ nonzeros_among scan levels c (size - c) → count ≡ nonzeros_of (coded_levels h scan levels)
  coded-count c size count e f g = g ∙ sym (ap (remaining 0) (coded-from h scan levels c size e f) ∙ from-count scan levels c (size - c))

-- ---- whether all levels are within bounds

pub within_more : (scan : List ℕ) (levels : List ℤ) (size k : ℕ) → k < size → leb (nat_abs (level_at scan levels k)) 32768 ≡ true
    → all_within (levels_from scan levels k (size - k)) ≡ all_within (levels_from scan levels (k + 1) (size - (k + 1)))
unfolding all_within
within_more scan levels size k h e = rw (from_first scan levels size k h) (simp e)

pub within-fails : (scan : List ℕ) (levels : List ℤ) (size k : ℕ) → k < size → leb (nat_abs (level_at scan levels k)) 32768 ≡ false
    → all_within (levels_from scan levels k (size - k)) ≡ false
unfolding all_within
within-fails scan levels size k h e = rw (from_first scan levels size k h) (simp e)

pub within_none : (scan : List ℕ) (levels : List ℤ) (k : ℕ) → all_within (levels_from scan levels k (k - k)) ≡ true
unfolding all_within levels_from
within_none scan levels k = let none : k - k ≡ 0 = omega arith in rw none

-- ---- whether all tokens have symbols

coded-more : (x : Code) {ts rest : List Token} {t : Token} → ts ≡ t ∷ rest → symbol_in x t < 128 → all_coded x ts ≡ all_coded x rest
unfolding all_coded
coded-more x {ts} {rest} {t} e low = rw e (simp (lt-ltb (symbol_in x t) 128 low))

-- what the first pass knows at scan position k: all tokens in front have symbols
pub record Counting (x : Code) (h : Shape) (scan : List ℕ) (levels : List ℤ) (k prev left : ℕ) : Type 0 where
  pub at : At h scan levels k prev left
  pub coded : all_coded x (all_tokens h scan levels) ≡ all_coded x (drop (before h scan levels k) (all_tokens h scan levels))

pub coded-next : (x : Code) (all : List Token) {ts rest : List Token} {t : Token} → all_coded x all ≡ all_coded x ts → ts ≡ t ∷ rest → symbol_in x t < 128 → all_coded x all ≡ all_coded x rest
coded-next x all a e low = a ∙ coded-more x e low

pub coded-fails : (x : Code) (all : List Token) {ts rest : List Token} {t : Token} → all_coded x all ≡ all_coded x ts → ts ≡ t ∷ rest → 127 < symbol_in x t → all_coded x all ≡ false
unfolding all_coded
coded-fails x all {ts} {rest} {t} a e high = a ∙ rw e (simp (le-ltb (symbol_in x t) 128 high))

-- where nothing is left all tokens were met
pub counted-all : (x : Code) (h : Shape) (scan : List ℕ) (levels : List ℤ) (k prev left : ℕ) → Counting x h scan levels k prev left → left ≤ 0
    → all_coded x (all_tokens h scan levels) ≡ true
unfolding all_coded
counted-all x h scan levels k prev left c none = c.coded ∙ ap (all_coded x) (nothing_left h scan levels k prev left c.at none)

-- ---- by what the code holds

module _ {h : Shape} {c log2 offset counts : ℕ} (laid : LaidOut h c log2 offset counts) {scan : List ℕ} {levels : List ℤ} (scanned : Scanned h scan levels) where
  pub size : length scan ≡ 64 * c
  size = omega (arith, laid.covered_is, scanned.order.size)

  module _ {count : ℕ} (counted : count ≡ nonzeros_among scan levels c (length scan - c)) where
    pub count_most : count ≤ 65536
    count_most = omega (arith, counted, among-most scan levels c (length scan - c), size, laid.most)

    -- the first scan position
    pub at-start : (prev : ℕ) → prev ≡ cond (leb count (64 * c / 16)) 1 0 → At h scan levels c prev count
    unfolding prev_by
    at-start prev e =
        rw laid.covered_is (at_first h scan levels count prev (rw (scanned.order.size, laid.covered_is) at counted) (rw laid.covered_is at e))

    pub count-first : all_tokens h scan levels ≡ record { context = counts; value = count } ∷ drop (before h scan levels c) (all_tokens h scan levels)
    count-first =
        rw (laid.covered_is, laid.count_is)
        (first-token h scan levels count (coded-count h scan levels c (length scan) count laid.covered_is scanned.order.size counted))

    module _ (x : Code) (r : Split) (split : SplitIn x (record { context = counts; value = count }) r) where
      pub count-coded : r.symbol ≤ 127 → all_coded x (all_tokens h scan levels) ≡ all_coded x (drop (before h scan levels c) (all_tokens h scan levels))
      count-coded low = coded-next x (all_tokens h scan levels) refl count-first (rw split.symbol_is at (suc-le-suc low))

      pub count-fails : 127 < r.symbol → all_coded x (all_tokens h scan levels) ≡ false
      count-fails high = coded-fails x (all_tokens h scan levels) refl count-first (rw split.symbol_is at high)

-- the step of scan position k can be made
pub has-token : {h : Shape} {p : LayoutNumbers} → Numbered h p → (scan : List ℕ) (levels : List ℤ) → Scanned h scan levels → (k left prev : ℕ)
    → Coefficient (covered_by h) left k prev → nat_abs (level_at scan levels k) ≤ 32768 → HasToken p scan levels k left prev
has-token {h} {p} laid scan levels scanned k left prev coefficient small =
    let below : k < 64 * covered_by h = omega (arith, coefficient.some, coefficient.left) in
    record {
      covers = laid.covers;
      offset_most = laid.offset_most;
      coefficient = rw laid.covered_is coefficient;
      scanned = rw scanned.order.size below;
      within = rw scanned.long (scanned.order.bound k below);
      small = small;
    }

-- its context, by the shape
pub context-by : {h : Shape} (p : LayoutNumbers) → Numbered h p → (left k prev : ℕ) → p.offset + zero_density_context p.covered left k prev ≡ level_context h left k prev
unfolding level_context
context-by p laid left k prev = ap₂ (λ (o c : ℕ). o + zero_density_context c left k prev) laid.offset_is laid.covered_is

-- its token, by the shape
pub token-by : {h : Shape} (p : LayoutNumbers) → Numbered h p → (scan : List ℕ) (levels : List ℤ) (k left prev : ℕ) → placed_token p scan levels k left prev ≡ level_token h scan levels k left prev
token-by p laid scan levels k left prev = ap (λ (n : ℕ). record { context = n; value = pack_signed (level_at scan levels k) }) (context-by p laid left k prev)

-- ---- by a block's levels

module _ (d : Coded) where
  pub most-in : d.count ≤ 65536
  most-in = count_most d.layout.laid d.scanned d.counted

  pub start-in : (prev : ℕ) → prev ≡ cond (leb d.count (64 * d.layout.covered / 16)) 1 0 → At d.layout.shape d.scan.now d.levels.now d.layout.covered prev d.count
  start-in = at-start d.layout.laid d.scanned d.counted

  pub first-in : tokens_in d ≡ count_token d ∷ drop (before d.layout.shape d.scan.now d.levels.now d.layout.covered) (tokens_in d)
  first-in = rw d.layout.laid.count_is at (count-first d.layout.laid d.scanned d.counted)

-- ---- how many tokens there are

-- scan position k is reached with `left` nonzero levels left, whatever `prev` is
pub record Reached (d : Coded) (k left : ℕ) : Type 0 where
  pub prev : ℕ
  pub at : At d.layout.shape d.scan.now d.levels.now k prev left

pub reached-first : (d : Coded) → Reached d d.layout.covered d.count
reached-first d = record { prev = _; at = start-in d _ refl }

-- ---- shapes of one layout have the same levels

pub same_coded : {h h' : Shape} {covered log2 offset counts : ℕ} → LaidOut h covered log2 offset counts → LaidOut h' covered log2 offset counts → (scan : List ℕ) (levels : List ℤ) → coded_levels h scan levels ≡ coded_levels h' scan levels
unfolding coded_levels
same_coded a b scan levels = ap (λ (c : ℕ). levels_from scan levels c (63 * c)) (sym a.covered_is ∙ b.covered_is)
