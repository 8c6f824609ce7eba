-- The walk that writes a list L of levels through the scan, from the first window position on: what it reads and what it has written at each. Assumes nothing.
use mathlib.Core.Path.{◌≡◌, refl, sym, ap, ap₂, ◌∙◌, subst, subst⁻¹}
use mathlib.Core.List.{List, [], ◌∷◌}
use Prim.Native.Nat.{ℕ, zero, suc, ◌+◌, ◌*◌, ◌≤◌, ◌<◌, zero-le}
use native.Mathlib.Nat.{le_refl, le_antisymm}
use native.Mathlib.Numerals.{add-one}
use lib.Dec.{ltb}
use lib.IntN.{ℤ, pos}
use lib.ListN.{length, get_or, drop, set}
use lib.Ieee.{Float}
use Rattle.block.specs.Block.{Block, with_levels, covered, input_at, ideal, candidates_at}
use Rattle.candidates.specs.Candidates.{candidates_of, in_array}
use Rattle.prices.specs.Book.{Book}
use Rattle.scan.specs.Scan.{Perm, level_at, put}
use Rattle.scan.proofs.Through.{put-more, put-after, put-length}
use Rattle.steps.proofs.Plans.{planned-lists}
use Rattle.steps.specs.Plan.{Planned, Lists, Readable, Offered, listed}
use Rattle.steps.specs.declared.plan.Plan.{Plan}
use Rattle.steps.specs.declared.reading.Offer.{Offer}
use Rattle.search_checks.specs.Checked.{Searched}
use Rattle.search_checks.proofs.Checked.{inner, readable-here, level-current}

-- a list from i on
pub from-here : (L : List ℤ) (i : ℕ) {c : ℤ} {cs : List ℤ} → drop i L ≡ c ∷ cs → (get_or L i (pos 0) ≡ c) × (drop (suc i) L ≡ cs)
from-here [] zero e = (cc, cc)
from-here [] (suc i) e = (cc, cc)
from-here (x ∷ L) zero e = (ap (λ (l : List ℤ). get_or l 0 (pos 0)) e, ap (λ (l : List ℤ). drop 1 l) e)
from-here (x ∷ L) (suc i) e = from-here L i e

-- the levels of the window positions before i are written
pub record WrittenTo {book : Book} {scan : List ℕ} {source inverse : List Float} {levels₀ : List ℤ} {plan : Plan} (s : Searched book scan source inverse levels₀ plan) (L : List ℤ) (i : ℕ) (levels : List ℤ) : Type 0 where
  pub upto : i ≤ plan.window.length
  pub written : levels ≡ put scan L (covered s.block) i levels₀

module _ {book : Book} {scan : List ℕ} {source inverse : List Float} {levels₀ : List ℤ} {plan : Plan} (s : Searched book scan source inverse levels₀ plan) (L : List ℤ) where
  pub none_written : WrittenTo s L 0 levels₀
  unfolding put
  none_written = record { upto = zero-le; written = refl }

  scanned : Perm scan (64 * covered s.block)
  scanned = subst⁻¹ (λ (x : List ℕ). Perm x (64 * covered s.block)) s.lists.scan_is s.checked.passed.scanned

  module _ {i : ℕ} {levels : List ℤ} (W : WrittenTo s L i levels) where
    pub written-length : length levels ≡ length levels₀
    written-length = ap length W.written ∙ put-length scan L (covered s.block) i levels₀

    pub all-written : plan.window.length ≤ i → levels ≡ put scan L (covered s.block) plan.window.length levels₀
    all-written k = subst (λ (n : ℕ). levels ≡ put scan L (covered s.block) n levels₀) (le_antisymm W.upto k) W.written

    module _ (h : i < plan.window.length) where
      -- ---- what is read at i
      pub level-kept : level_at scan levels (covered s.block + i) ≡ input_at s.block (covered s.block + i)
      unfolding input_at
      level-kept =
          ap (λ (l : List ℤ). level_at scan l (covered s.block + i)) W.written
          ∙ put-after scanned L (covered s.block) levels₀ i (covered s.block + i) (le_refl _) (inner (covered s.block) plan.window.length i h s.checked.passed.window.fits)
          ∙ ap₂ (λ (x : List ℕ) (l : List ℤ). level_at x l (covered s.block + i)) s.lists.scan_is s.lists.levels_is

      pub readable-now : Readable scan source inverse levels plan.scale (plan.covered + i)
      readable-now =
          let l = s.lists in
          let R : Readable scan source inverse levels₀ plan.scale (plan.covered + i) = rw (l.scan_is, l.source_is, l.inverse_is, l.levels_is) (readable-here s.checked i h) in
          record {
            scanned = R.scanned;
            sourced = R.sourced;
            inverted = R.inverted;
            levelled = rw written-length R.levelled;
            ideal = R.ideal;
            level = rw (s.checked.planned.covered_is, level-kept) (level-current s.checked i h);
          }

      module _ {offer : Offer} {array : List ℤ} (S : (b : Block) → Lists b scan source inverse levels → Planned b plan → Offered plan.window b i offer array) where
        offered : Offered plan.window (with_levels s.block levels) i offer array
        offered =
            S (with_levels s.block levels)
            (record { scan_is = s.lists.scan_is; source_is = s.lists.source_is; inverse_is = s.lists.inverse_is; levels_is = refl })
            (planned-lists s.block s.checked.planned s.block.scan s.block.source s.block.inverse levels)

        pub offer-level : offer.level ≡ input_at s.block (covered s.block + i)
        unfolding input_at covered
        offer-level = offered.level_is ∙ ap (λ (x : List ℕ). level_at x levels (covered s.block + i)) (sym s.lists.scan_is) ∙ level-kept

        pub offer-listed : listed (in_array offer.count array) ≡ candidates_at plan.window s.block i
        unfolding candidates_at input_at covered ideal
        offer-listed = offered.listed_is ∙ ap (λ (z : ℤ). candidates_of (ideal s.block i) z (ltb i plan.window.restoring)) (sym offered.level_is ∙ offer-level)

      -- ---- what is written at i
      pub more-written : {q : ℤ} {k : ℕ} {levels' : List ℤ} → get_or L i (pos 0) ≡ q → k ≡ plan.covered + i → levels' ≡ set levels (get_or scan k 0) q → WrittenTo s L (i + 1) levels'
      more-written {q} {k} {levels'} e f g =
          let place : k ≡ covered s.block + i = f ∙ ap (λ (c : ℕ). c + i) s.checked.planned.covered_is in
          rw add-one
          (record {
            upto = h;
            written =
                g
                ∙ ap₂ (λ (j : ℕ) (z : ℤ). set levels (get_or scan j 0) z) place (sym e)
                ∙ ap (λ (y : List ℤ). set y (get_or scan (covered s.block + i) 0) (get_or L i (pos 0))) W.written
                ∙ sym (rw add-one at (put-more scan L (covered s.block) i levels₀));
          })
