-- The pass over the whole window, and what the call answers. Assumes nothing.
use mathlib.Core.Path.{◌≡◌, refl, ap, ◌∙◌}
use mathlib.Core.Bool.{true}
use mathlib.Core.List.{List}
use Prim.Native.Nat.{ℕ, suc, ◌+◌, ◌-◌, ◌*◌, ◌≤◌, ◌<◌}
use native.Mathlib.Omega.{arith}
use native.Mathlib.Nat.{le_refl, le_trans, zero-mul}
use lib.Dec.{leb}
use lib.IntN.{ℤ}
use lib.ListN.{length}
use lib.Ieee.{Float}
use borrow.Author.Tests.{eq-eqb, ne_eqb}
use Rattle.block.specs.Block.{Block, covered, input_at, input_remaining, ideal, nonzeros_among, with_levels}
use Rattle.block.specs.Checks.{search_refusal, enough_room}
use Rattle.block.specs.Answer.{Count, Refused}
use Rattle.prices.specs.Book.{Book}
use Rattle.scan.specs.Scan.{Perm}
use Rattle.search_checks.specs.Checked.{Checked}
use Rattle.search_checks.proofs.Checked.{base_short}
use Rattle.steps.proofs.Counting.{among-most}
use Rattle.steps.proofs.Ordered.{among-split}
use Rattle.steps.proofs.Plans.{planned-lists}
use Rattle.search_checks.proofs.Refusing.{no_rows}
use Rattle.steps.specs.Plan.{Planned, Lists}
use Rattle.steps.specs.declared.plan.Plan.{Plan}
use Rattle.weights.specs.declared.Window.{Window}
use Rattle.greedy.specs.declared.pass.Counts.{Counts}
use Rattle.greedy.specs.Greedy.{settled_at, settled_from, greedy_levels, Outcome, outcome_of, searched_outcome, refusal, greedy_outcome}
use Rattle.greedy.specs.Reading.{Fitting, Ready, count_from}

-- ---- the counts at the window's end
pub total-is : (scan : List ℕ) (levels : List ℤ) (c n : ℕ) {later window : ℕ} → c + n ≤ 64 * c → later ≡ count_from scan levels c (c + n) → window ≡ nonzeros_among scan levels c (c + n - c)
    → later + window ≡ count_from scan levels c c
total-is scan levels c n {later} {window} h el ew =
    let parts : 64 * c - c ≡ n + (64 * c - (c + n)) = omega arith in
    let same : c + n - c ≡ n = omega arith in
    let split = among-split scan levels c n (64 * c - (c + n)) in
    let whole : count_from scan levels c c ≡ nonzeros_among scan levels c (n + (64 * c - (c + n))) = ap (nonzeros_among scan levels c) parts in
    let front : window ≡ nonzeros_among scan levels c n = ew ∙ ap (nonzeros_among scan levels c) same in
    omega arith

pub counted-few : (scan : List ℕ) (levels : List ℤ) (c : ℕ) {t : ℕ} → t ≡ count_from scan levels c c → t ≤ 64 * c
counted-few scan levels c e = omega (arith, among-most scan levels c (64 * c - c))

module _ {p : Plan} {scan : List ℕ} {source inverse : List Float} {levels : List ℤ} where
  -- the scan is one of as many levels as there are
  pub scan-of : Ready p scan source inverse levels (64 * p.covered) → Perm scan (length levels)
  scan-of r = rw r.levelled r.scanned

  pub ready-less : {upto upto' : ℕ} → upto' ≤ upto → Ready p scan source inverse levels upto → Ready p scan source inverse levels upto'
  ready-less h r =
      record { scanned = r.scanned; sourced = r.sourced; inverted = r.inverted; levelled = r.levelled; current = λ k l m. r.current k l (le_trans m h); ideals = r.ideals }

-- ---- the pass, down to window position i
pub planned-with : {b : Block} {p : Plan} → Planned b p → (x : List ℤ) → Planned (with_levels b x) p
planned-with {b} w x = planned-lists b w b.scan b.source b.inverse x

pub record SoFar (p : Plan) (book : Book) (scan : List ℕ) (source inverse : List Float) (first levels : List ℤ) (counts : Counts) (i : ℕ) : Type 0 where
  pub upto : i ≤ p.window.length
  pub ready : Ready p scan source inverse levels (p.covered + i)
  pub later : counts.later ≡ count_from scan levels p.covered (p.covered + i)
  pub total : counts.total ≡ count_from scan levels p.covered p.covered
  pub rest : (b : Block) → Lists b scan source inverse first → Planned b p → settled_from p.window book i (with_levels b levels) ≡ settled_from p.window book p.window.length b

module _ {p : Plan} (book : Book) {scan : List ℕ} {source inverse : List Float} {first : List ℤ} where
  pub so-far-none : {counts : Counts} → Fitting p → Ready p scan source inverse first (64 * p.covered) → counts.later ≡ count_from scan first p.covered (p.covered + p.window.length)
      → counts.total ≡ count_from scan first p.covered p.covered → SoFar p book scan source inverse first first counts p.window.length
  so-far-none f r el et =
      record {
        upto = le_refl _;
        ready = ready-less f.window r;
        later = el;
        total = et;
        rest = λ b l w. ap (λ (x : List ℤ). settled_from p.window book p.window.length (with_levels b x)) l.levels_is;
      }

  module _ {levels : List ℤ} {counts : Counts} {i : ℕ} (some : 0 < i) (s : SoFar p book scan source inverse first levels counts i) where
    next : p.covered + (i - 1) + 1 ≡ p.covered + i
    next = omega arith

    pub next-ready : Ready p scan source inverse levels (p.covered + (i - 1) + 1)
    next-ready = rw next s.ready

    pub next-below : i - 1 < p.window.length
    next-below = omega (arith, s.upto)

    pub next-later : counts.later ≡ count_from scan levels p.covered (p.covered + (i - 1) + 1)
    next-later = rw next s.later

    pub so_far_more : {levels' : List ℤ} {counts' : Counts}
        → ((b : Block) → Lists b scan source inverse levels → Planned b p → levels' ≡ settled_at p.window book b (i - 1))
        → Ready p scan source inverse levels' (p.covered + (i - 1)) → counts'.later ≡ count_from scan levels' p.covered (p.covered + (i - 1)) → counts'.total ≡ count_from scan levels' p.covered p.covered
        → SoFar p book scan source inverse first levels' counts' (i - 1)
    unfolding settled_from covered
    so_far_more {levels'} step r el et =
        let before : i ≡ suc (i - 1) = omega arith in
        record {
          upto = omega (arith, s.upto);
          ready = r;
          later = el;
          total = et;
          rest = λ b l w.
              let wrote = step (with_levels b levels) (record { scan_is = l.scan_is; source_is = l.source_is; inverse_is = l.inverse_is; levels_is = refl }) (planned-with w levels) in
              let old = rw before at (s.rest b l w) in
              ap (λ (x : List ℤ). settled_from p.window book (i - 1) (with_levels b x)) wrote ∙ old;
        }

  pub so-far-all : {levels : List ℤ} {counts : Counts} {i : ℕ} → i ≤ 0 → SoFar p book scan source inverse first levels counts i
      → (b : Block) → Lists b scan source inverse first → Planned b p → levels ≡ greedy_levels p.window book b
  unfolding settled_from greedy_levels
  so-far-all {levels} {counts} {i} h s b l w =
      let none : i ≡ 0 = omega arith in
      rw none at (s.rest b l w)

-- ---- the call
module _ {book : Book} {b : Block} {p : Plan} (K : Checked book b p) where
  pub fitting-of : Fitting p
  fitting-of =
      record {
        some = rw K.planned.covered_is K.passed.some;
        most = rw K.planned.covered_is K.passed.most;
        base = base_short K;
        window = rw K.planned.covered_is K.passed.window.fits;
      }

  pub ready_of : Ready p b.scan b.source b.inverse b.levels (64 * p.covered)
  unfolding input_at ideal
  ready_of =
      let w = K.planned in
      let a = K.passed in
      record {
        scanned = rw w.covered_is a.scanned;
        sourced = rw w.covered_is a.source_long;
        inverted = rw w.covered_is a.inverse_long;
        levelled = rw w.covered_is a.levels_long;
        current = λ k l m. a.current k (rw w.covered_is at l) (rw w.covered_is at m);
        ideals = λ i h. rw (w.covered_is, w.source_is) (a.ideals i h);
      }

-- refused by a check
pub refused-outcome : (w : ℕ) (v : Window) (book : Book) (b : Block) {n : ℕ} → n ≡ refusal w v book b → (n ≡ 0 → ⊥) → outcome_of (Refused n) b.levels ≡ greedy_outcome w v book b
unfolding greedy_outcome
refused-outcome w v book b e some = rw (ne_eqb (refusal w v book b) 0 (λ z. some (e ∙ z))) (ap (λ (m : ℕ). outcome_of (Refused m) b.levels) e)

-- let pass, and settled
pub settled-outcome : (v : Window) (book : Book) {b : Block} {p : Plan} {levels : List ℤ} {count : ℕ} → Planned b p → p.window ≡ v
    → levels ≡ greedy_levels p.window book b → count ≡ count_from b.scan levels p.covered p.covered → outcome_of (Count count) levels ≡ searched_outcome v book b
unfolding searched_outcome input_remaining covered
settled-outcome v book {b} {p} {levels} {count} w ev el ec =
    let found : levels ≡ greedy_levels v book b = rw ev at el in
    rw (← found) (ap (λ (n : ℕ). outcome_of (Count n) levels) (ec ∙ rw w.covered_is))

-- a call whose checks pass answers as the search of the checked book does
pub let-pass : (w : ℕ) (v : Window) (book : Book) (b : Block) → refusal w v book b ≡ 0 → {checked : Book} → checked ≡ book → {after : Outcome} → after ≡ searched_outcome v checked b → after ≡ greedy_outcome w v book b
unfolding greedy_outcome
let-pass w v book b none same e = rw (eq-eqb (refusal w v book b) 0 none) (e ∙ ap (λ (k : Book). searched_outcome v k b) same)

pub by-check : (w : ℕ) (v : Window) (book : Book) (b : Block) {n : ℕ} → n ≡ search_refusal w v book b (enough_room 0 0 v.length 0 0 0) → n ≡ refusal w v book b
unfolding refusal
by-check w v book b e =
    let none : enough_room 0 0 v.length 0 0 0 ≡ true = no_rows 0 v.length 0 0 0 ∙ ap (λ (n : ℕ). leb n 0) (zero-mul v.length) in
    e ∙ ap (search_refusal w v book b) none
