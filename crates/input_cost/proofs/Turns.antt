-- What is read and asked at a window position, by the lists that the code is handed. Assumes nothing.
use mathlib.Core.Path.{◌≡◌, refl, ap, ◌∙◌}
use mathlib.Core.Bool.{cond}
use mathlib.Core.List.{List}
use Prim.Native.Nat.{ℕ, zero, suc, ◌+◌, ◌-◌, ◌*◌, ◌/◌, ◌≤◌, ◌<◌}
use native.Mathlib.Omega.{arith}
use native.Mathlib.Nat.{le_refl, not-suc-le-zero, le_of_suc-le-suc}
use lib.Dec.{eqb, T, leb}
use lib.IntN.{ℤ}
use lib.Ieee.{Float}
use Rattle.ac_context.specs.Contexts.{Covered, Coefficient}
use Rattle.bias.specs.Level.{is_level}
use Rattle.block.specs.Block.{Block, covered, input_at, input_remaining, ideal, ideal_at}
use Rattle.block.specs.Cost.{local_cost}
use Rattle.block_checks.proofs.Reading.{whole}
use Rattle.least_cost.specs.Position.{nz}
use Rattle.prices.specs.Book.{Book}
use Rattle.problem.proofs.Problem.{among-most}
use Rattle.scan.specs.Scan.{level_at}
use Rattle.search_checks.specs.Checked.{Searched}
use Rattle.search_checks.proofs.Checked.{bit-few, inner, readable-here, remaining-few, remaining-step, scan-of, levels-few, window-fits, window-some}
use Rattle.steps.specs.Place.{place_of, context_at, local_in, local_at}
use Rattle.steps.specs.Plan.{Readable, Whole}
use Rattle.steps.specs.declared.Place.{Place}
use Rattle.steps.specs.declared.plan.Plan.{Plan}
use Rattle.steps.proofs.Local.{local-is}
use Rattle.steps.proofs.Zero.{current-level}
use Rattle.input_cost.specs.Sum.{Within}

-- the local cost of one `prev` of two
pub local_by : (book : Book) (x : Place) (r p : ℕ) {q q' : ℤ} {context : ℕ} {y first second : Float} → p ≤ 1 → (p ≡ 0 → y ≡ first) × (p ≡ 1 → y ≡ second)
    → first ≡ local_in book x context 0 q' → second ≡ local_in book x context 1 q' → context ≡ context_at x r → q' ≡ q → y ≡ local_at book x r p q
unfolding local_at
local_by book x r zero h by e f g s = by.0 refl ∙ e ∙ cc
local_by book x r (suc zero) h by e f g s = by.1 refl ∙ f ∙ cc
local_by book x r (suc (suc p)) h by e f g s = absurd (not-suc-le-zero (le_of_suc-le-suc h))

-- the one of two that is for `prev`
pub by-flag : {p : ℕ} {y first second : Float} → y ≡ cond (eqb p 0) first second → (p ≡ 0 → y ≡ first) × (p ≡ 1 → y ≡ second)
by-flag e = (λ z. rw z at e, λ z. rw z at e)

-- `prev` by a count
pub first-few : (n c : ℕ) {p : ℕ} → p ≡ cond (leb n (64 * c / 16)) 1 0 → p ≤ 1
first-few n c e = rw e (bit-few (leb n (64 * c / 16)))

-- a level read is the block's
pub input-is : (b : Block) {scan : List ℕ} {levels : List ℤ} (k k' : ℕ) {q : ℤ} → scan ≡ b.scan → levels ≡ b.levels → k ≡ k' → q ≡ level_at scan levels k → q ≡ input_at b k'
unfolding input_at
input-is b k k' es el ek eq = cc

-- past the window the levels can be read too
pub whole-later : {p : Plan} {scan : List ℕ} {levels : List ℤ} → Within p scan levels → Whole p.covered (p.covered + p.window.length) scan levels
whole-later w =
    record { size = w.whole.size; within = w.whole.within; level = λ k l m. w.whole.level k (omega arith) m }

module _ {book : Book} {scan : List ℕ} {source inverse : List Float} {levels : List ℤ} {plan : Plan} (w : Searched book scan source inverse levels plan) where
  pub within-now : Within plan scan levels
  within-now =
      record {
        whole = rw (w.lists.scan_is, w.lists.levels_is, w.checked.planned.covered_is) (whole w.checked.passed (covered w.block) (le_refl _));
        scanned = scan-of w;
        few = levels-few w;
        some = window-some w.checked;
        fits = window-fits w;
      }

  pub remaining-most : (k : ℕ) {r : ℕ} → k ≤ 64 * covered w.block → r ≡ input_remaining w.block k → r + k ≤ 64 * covered w.block
  unfolding input_remaining
  remaining-most k h e = omega (arith, among-most w.block.scan w.block.levels k (64 * covered w.block - k))

  pub remaining-small : (k : ℕ) {r : ℕ} → r ≡ input_remaining w.block k → r ≤ 65536
  remaining-small k e = rw e (remaining-few w.checked k)

  module _ (i : ℕ) (h : i < plan.window.length) where
    pub readable-now : Readable scan source inverse levels plan.scale (plan.covered + i)
    readable-now = let L = w.lists in rw (L.scan_is, L.source_is, L.inverse_is, L.levels_is) (readable-here w.checked i h)

    pub level-has : T (is_level (level_at scan levels (plan.covered + i)))
    level-has = current-level (level_at scan levels (plan.covered + i)) readable-now.level

    pub in_block : covered w.block + i < 64 * covered w.block
    in_block = inner (covered w.block) plan.window.length i h w.checked.passed.window.fits

    pub level-now : {q : ℤ} → q ≡ level_at scan levels (plan.covered + i) → q ≡ input_at w.block (covered w.block + i)
    level-now e = input-is w.block (plan.covered + i) (covered w.block + i) w.lists.scan_is w.lists.levels_is (ap (λ (c : ℕ). c + i) w.checked.planned.covered_is) e

    pub ideal-now : {x : Float} → x ≡ ideal_at scan source inverse plan.scale (plan.covered + i) → x ≡ ideal w.block i
    unfolding ideal
    ideal-now e =
        let at : plan.covered + i ≡ covered w.block + i = ap (λ (c : ℕ). c + i) w.checked.planned.covered_is in
        let L = w.lists in
        let scaled = w.checked.planned.source_is in
        cc

    -- one level more is counted
    pub counted-more : {after n : ℕ} {q : ℤ} → after ≡ input_remaining w.block (covered w.block + suc i) → n ≡ nz q → q ≡ input_at w.block (covered w.block + i)
        → after + n ≡ input_remaining w.block (covered w.block + i)
    counted-more {after} {n} {q} ea en eq =
        let step = remaining-step w.checked (covered w.block + i) in_block in
        let next : covered w.block + suc i ≡ suc (covered w.block + i) = omega arith in
        let later : after ≡ input_remaining w.block (suc (covered w.block + i)) = ea ∙ ap (input_remaining w.block) next in
        let here : n ≡ nz (input_at w.block (covered w.block + i)) = en ∙ ap nz eq in
        omega arith

    module _ {x : Place} (place : x ≡ place_of w.block plan.log2 i) where
      pub covers-now : Covered x.covered x.log2 × (x.offset + 457 < 14850)
      unfolding place_of
      covers-now =
          (rw (place, ← w.checked.planned.covered_is) w.checked.planned.covers, rw (place, ← w.checked.planned.offset_is) plan.coded.offset)

      pub coded_now : {r : ℕ} → r ≡ input_remaining w.block (covered w.block + i) → 0 < r → Coefficient x.covered r x.k 0
      unfolding place_of
      coded_now {r} e some =
          let left = remaining-most (covered w.block + i) (omega (arith, in_block)) e in
          rw place (record { some = some; left = left; coded = omega arith; flag = omega arith })

      pub local-now : (r p : ℕ) {q : ℤ} {y : Float} → p ≤ 1 → y ≡ local_at book x r p q → q ≡ input_at w.block (covered w.block + i) → y ≡ local_cost book w.block i r p (input_at w.block (covered w.block + i))
      local-now r p {q} few e eq =
          e ∙ ap (λ (z : Place). local_at book z r p q) place ∙ local-is book w.block plan.log2 i r p q few ∙ ap (local_cost book w.block i r p) eq
