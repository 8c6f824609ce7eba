-- The positions one after the other: what holds before the first is taken, and after each. Assumes nothing.
use mathlib.Core.Path.{◌≡◌, refl, subst, subst⁻¹}
use mathlib.Core.Bool.{Bool, true, false}
use mathlib.Core.List.{List}
use Prim.Native.Nat.{ℕ, suc, ◌+◌, ◌-◌, ◌*◌, ◌≤◌, ◌<◌}
use native.Mathlib.Omega.{arith}
use borrow.Author.Tests.{eqb-true, eqb-false}
use lib.IntN.{ℤ}
use lib.Dec.{eqb}
use lib.ListN.{get_or}
use lib.Ieee.{Float}
use Rattle.beam_paths.specs.Held.{PathsFor, Named}
use Rattle.beam_paths.specs.declared.Paths.{Paths}
use Rattle.block.specs.Band.{position_at, half_width}
use Rattle.block.specs.Block.{Block}
use Rattle.prices.specs.Book.{Book}
use Rattle.steps.specs.declared.plan.Plan.{Plan}
use Rattle.search_checks.specs.Checked.{Searched}
use Rattle.weights.specs.declared.Window.{Window}
use Rattle.beam.specs.Held.{paths, path_at, ChosenAt, Stepped, Reached}

again : (i : ℕ) → 0 < i → suc (i - 1) ≡ i
again i h = omega arith

chosen-kept : {v : Window} {book : Book} {b : Block} {i j : ℕ} {choices choices' : List ℕ} → i < j → ((k : ℕ) → 6 * i + 6 ≤ k → get_or choices' k 0 ≡ get_or choices k 0) → ChosenAt v book b j choices → ChosenAt v book b j choices'
chosen-kept {v} {book} {b} {i} {j} {choices} {choices'} h same w = record {
  each = λ k p l P f. subst⁻¹ (λ (n : ℕ). Named (position_at half_width v book b j) (paths v book b (suc j)) p n (path_at v book b j k)) (same (6 * j + (2 * k + p)) (omega arith)) (w.each k p l P f);
}

module _ {book : Book} {scan : List ℕ} {source inverse : List Float} {levels : List ℤ} {plan : Plan} (w : Searched book scan source inverse levels plan) where
  pub reached-start : {choices : List ℕ} {s : Paths} → PathsFor (paths plan.window book w.block plan.window.length) s → Reached plan.window book w.block plan.window.length choices s
  reached-start {choices} {s} F =
      record { paths_are = F; chosen = λ j l h. absurd (omega arith) }

  module _ {i : ℕ} {choices : List ℕ} {s : Paths} (some : 0 < i) (R : Reached plan.window book w.block i choices s) where
    pub behind-here : PathsFor (paths plan.window book w.block (suc (i - 1))) s
    behind-here = subst⁻¹ (λ (k : ℕ). PathsFor (paths plan.window book w.block k) s) (again i some) R.paths_are

    pub in_window : i ≤ plan.window.length → i - 1 < plan.window.length
    in_window h = omega arith

    pub reached-more : {choices' : List ℕ} {s' : Paths} → Stepped plan.window book w.block (i - 1) choices choices' s' → Reached plan.window book w.block (i - 1) choices' s'
    reached-more {choices'} x = record { paths_are = x.paths_are; chosen = λ j l h. go j l h (eqb (i - 1) j) refl }
      where
        go : (j : ℕ) → i - 1 ≤ j → j < plan.window.length → (t : Bool) → eqb (i - 1) j ≡ t → ChosenAt plan.window book w.block j choices'
        go j l h true e = subst (λ (k : ℕ). ChosenAt plan.window book w.block k choices') (eqb-true (i - 1) j e) x.chosen
        go j l h false e =
            let other = eqb-false (i - 1) j e in
            let later : i - 1 < j = omega (arith, other) in
            chosen-kept later x.behind (R.chosen j (omega arith) h)
