-- An array filled from the front: what was written stays. Assumes nothing.
use mathlib.Core.Path.{◌≡◌, refl, ◌∙◌, subst⁻¹}
use mathlib.Core.List.{List}
use mathlib.Core.Bool.{Bool, true, false}
use Prim.Native.Nat.{ℕ, ◌+◌, ◌<◌}
use native.Mathlib.Omega.{arith}
use lib.Dec.{eqb}
use lib.ListN.{length, get_or, set}
use lib.Seq.{get_or-set_same, get_or-set_other}
use borrow.Author.Tests.{eqb-true, eqb-false}

-- the first j entries of xs are f's
pub record Front {A : Type 0} (d : A) (f : ℕ → A) (j : ℕ) (xs : List A) : Type 0 where
  pub at : (k : ℕ) → k < j → get_or xs k d ≡ f k

pub front-none : {A : Type 0} (d : A) (f : ℕ → A) (xs : List A) → Front d f 0 xs
front-none d f xs = record { at = λ k h. absurd (omega arith) }

pub front-more : {A : Type 0} {d : A} {f : ℕ → A} {j : ℕ} {xs : List A} {x : A} → j < length xs → Front d f j xs → x ≡ f j → Front d f (j + 1) (set xs j x)
front-more {A} {d} {f} {j} {xs} {x} room w e = record { at = λ k h. go k h (eqb k j) refl }
  where
    go : (k : ℕ) → k < j + 1 → (b : Bool) → eqb k j ≡ b → get_or (set xs j x) k d ≡ f k
    go k h true t =
        subst⁻¹ (λ (n : ℕ). get_or (set xs j x) n d ≡ f n) (eqb-true k j t) (get_or-set_same xs j x d room ∙ e)
    go k h false t =
        let other = eqb-false k j t in
        get_or-set_other xs j k x d other ∙ w.at k (omega (arith, other))
