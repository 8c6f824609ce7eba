-- The returns of the checks: what was tested, as the definition says it. Assumes nothing.
use Prim.Native.Nat.{ℕ}
use mathlib.Core.Path.{◌≡◌, refl, sym, ◌∙◌}
use mathlib.Core.Bool.{true, false}
use mathlib.Core.List.{List, [], ◌∷◌}
use lib.IntN.{ℤ}
use lib.ListN.{length}
use Rattle.coding.specs.Coding.{coding_checks}
use Rattle.laws.proofs.Refused.{refused-first, all_pass}
use Rattle.laws.specs.Refusals.{first_refused}
use Rattle.scan.specs.Scan.{each_once}
use Rattle.block_tokens.specs.Outcome.{Given, shape_checks, lent_refusal}
use Rattle.block_tokens.proofs.Passed.{in_parts}

-- all
module _ (g : Given) (levels : List ℤ) {n : ℕ} (coding : n ≡ first_refused (coding_checks g.coding true) 0) where
  pub coding-refused : (n ≡ 0 → ⊥) → n ≡ lent_refusal g levels
  coding-refused some = coding ∙ sym (in_parts g levels ∙ refused-first _ _ (λ z. some (coding ∙ z)))

  module _ (ok : n ≡ 0) {m : ℕ} (shape : m ≡ first_refused (shape_checks g.shape (length levels) (length g.scan)) 0) where
    later : lent_refusal g levels ≡ first_refused (shape_checks g.shape (length levels) (length g.scan)) (first_refused ((each_once g.scan, 11) ∷ []) 0)
    unfolding coding_checks
    later = in_parts g levels ∙ all_pass (coding_checks g.coding true) _ refl (sym coding ∙ ok)

    pub shape-refused : (m ≡ 0 → ⊥) → m ≡ lent_refusal g levels
    shape-refused some = shape ∙ sym (later ∙ refused-first _ _ (λ z. some (shape ∙ z)))

    module _ (fits : m ≡ 0) where
      last : lent_refusal g levels ≡ first_refused ((each_once g.scan, 11) ∷ []) 0
      unfolding shape_checks
      last = later ∙ all_pass (shape_checks g.shape (length levels) (length g.scan)) _ refl (sym shape ∙ fits)

      pub at11 : each_once g.scan ≡ false → 11 ≡ lent_refusal g levels
      unfolding first_refused
      at11 e = sym (last ∙ rw e)

      pub none : each_once g.scan ≡ true → 0 ≡ lent_refusal g levels
      unfolding first_refused
      none e = sym (last ∙ rw e)
