-- One step of the pass: what the written level leaves. Assumes nothing.
use mathlib.Core.Path.{◌≡◌, refl, ap}
use mathlib.Core.List.{List}
use Prim.Native.Nat.{ℕ, zero, suc, ◌+◌, ◌-◌, ◌*◌, ◌≤◌, ◌<◌}
use native.Mathlib.Omega.{arith}
use native.Mathlib.Nat.{le_refl}
use lib.IntN.{ℤ}
use lib.ListN.{get_or, set, length-set}
use lib.Ieee.{Float}
use Rattle.block.specs.Block.{Block, nonzeros_among}
use Rattle.least_cost.specs.Position.{nz}
use Rattle.prices.specs.Book.{Book}
use Rattle.scan.specs.Scan.{Perm, level_at}
use Rattle.scan.proofs.Through.{level-same, level-other}
use Rattle.steps.specs.Plan.{Planned, Lists}
use Rattle.steps.specs.declared.plan.Plan.{Plan}
use Rattle.steps.proofs.Counting.{among_first}
use Rattle.greedy.specs.Greedy.{chosen, settled_at}
use Rattle.greedy.specs.Reading.{Fitting, Ready, count_from}
use Rattle.greedy.proofs.Passing.{total-split}

-- a count of scan positions that are not written
pub among-off : {scan : List ℕ} {size : ℕ} → Perm scan size → (block : List ℤ) (j : ℕ) (v : ℤ) → j < size → (k n : ℕ) → k + n ≤ size → ((m : ℕ) → k ≤ m → m < k + n → m ≡ j → ⊥)
    → nonzeros_among scan (set block (get_or scan j 0) v) k n ≡ nonzeros_among scan block k n
unfolding nonzeros_among
among-off scanned block j v below k zero fits off = refl
among-off scanned block j v below k (suc n) fits off =
    let here = level-other scanned block j k below (omega arith) (off k (le_refl k) (omega arith)) v in
    let rest = among-off scanned block j v below (suc k) n (omega arith) (λ m l h. off m (omega arith) (omega arith)) in
    cc

module _ {p : Plan} {scan : List ℕ} {source inverse : List Float} {levels : List ℤ} (i : ℕ) (f : Fitting p) (r : Ready p scan source inverse levels (p.covered + i + 1)) (h : i < p.window.length)
    (q : ℤ) {after : List ℤ} (e : after ≡ set levels (get_or scan (p.covered + i) 0) q) where
  inside : p.covered + i < 64 * p.covered
  inside = omega (arith, f.window)

  here : level_at scan after (p.covered + i) ≡ q
  here = rw e (level-same r.scanned levels r.levelled (p.covered + i) inside q)

  other : (k : ℕ) → k < 64 * p.covered → (k ≡ p.covered + i → ⊥) → level_at scan after k ≡ level_at scan levels k
  other k l d = rw e (level-other r.scanned levels (p.covered + i) k inside l d q)

  behind : count_from scan after p.covered (p.covered + i + 1) ≡ count_from scan levels p.covered (p.covered + i + 1)
  behind = rw e (among-off r.scanned levels (p.covered + i) q inside (p.covered + i + 1) (64 * p.covered - (p.covered + i + 1)) (omega (arith, inside)) (λ m l k d. omega arith))

  front : nonzeros_among scan after p.covered i ≡ nonzeros_among scan levels p.covered i
  front = rw e (among-off r.scanned levels (p.covered + i) q inside p.covered i (omega (arith, inside)) (λ m l k d. omega arith))

  pub step-ready : Ready p scan source inverse after (p.covered + i)
  step-ready =
      record {
        scanned = r.scanned;
        sourced = r.sourced;
        inverted = r.inverted;
        levelled = rw e (simp length-set r.levelled);
        current = λ k l m. rw (other k (omega (arith, inside)) (λ d. omega arith)) (r.current k l (omega arith));
        ideals = r.ideals;
      }

  pub step-later : {later n : ℕ} → later ≡ count_from scan levels p.covered (p.covered + i + 1) → n ≡ nz q → later + n ≡ count_from scan after p.covered (p.covered + i)
  step-later el en =
      let first = among_first scan after (64 * p.covered) (p.covered + i) inside in
      let same = ap nz here in
      omega (arith, behind)

  pub step-total : {total before n : ℕ} → total ≡ count_from scan levels p.covered p.covered → before ≡ nz (level_at scan levels (p.covered + i)) → n ≡ nz q
      → total - before + n ≡ count_from scan after p.covered p.covered
  step-total et eb en =
      let old = total-split scan levels p.covered i inside in
      let new = total-split scan after p.covered i inside in
      let same = ap nz here in
      omega (arith, behind, front)

  pub step-settled : (book : Book) (b : Block) → Lists b scan source inverse levels → Planned b p → q ≡ chosen p.window book b i → after ≡ settled_at p.window book b i
  unfolding settled_at
  step-settled book b l w eq =
      let cov = w.covered_is in
      let scans = l.scan_is in
      let lists = l.levels_is in
      cc
