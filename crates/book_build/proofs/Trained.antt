-- Clusters with and without a word.
use Prim.Native.Nat.{ℕ, ◌+◌, ◌*◌, ◌/◌, ◌≤◌, ◌<◌}
use mathlib.Core.Path.{◌≡◌, refl, sym, ap, ◌∙◌}
use mathlib.Core.Bool.{Bool, true, false, not, and-true, and-false}
use mathlib.Core.List.{List}
use native.Mathlib.Omega.{arith}
use lib.Dec.{eqb}
use lib.IntN.{pos}
use lib.ListN.{get_or}
use lib.Ieee.{fin}
use borrow.Author.Tests.{eq-eqb, ne_eqb}
use Rattle.std.proofs.Common.{◌-◌, drop, length, slice_range, MatchBool, length-take, length-drop}
use Rattle.std.specs.List.{HoldsAt, AllWithin}
use Rattle.std.proofs.lemmas.List.{get_or-take, get_or-drop}
use Rattle.prices.specs.Checks.{each}
use Rattle.prices.proofs.Each.{each-fails, each_below, each_all}
use Rattle.book_build.specs.Prefix.{Prefix, trained, unseen_price, depth_price, row_entry, single_of, prefix_entry}

-- depth j of cluster k is 0
abbrev pub lacks : List ℕ → ℕ → ℕ → Bool
lacks depths k j = eqb (get_or depths (128 * k + j) 0) 0

pub word-met : (depths : List ℕ) (k j : ℕ) → j < 128 → (get_or depths (128 * k + j) 0 ≡ 0 → ⊥) → true ≡ trained depths k
unfolding trained
word-met depths k j h ne = sym (ap not (each-fails (lacks depths k) 128 j h (ne_eqb _ _ ne)))

pub no-word-met : (depths : List ℕ) (k : ℕ) → each 128 (lacks depths k) ≡ true → false ≡ trained depths k
unfolding trained
no-word-met depths k e = sym (ap not e)

-- what looking through a cluster's depths for one that is not 0 tells
abbrev pub row : List ℕ → ℕ → List ℕ
row depths k = slice_range depths (128 * k) (128 * k + 128)

row-at : (depths : List ℕ) (k j : ℕ) → j < 128 → get_or (row depths k) j 0 ≡ get_or depths (128 * k + j) 0
row-at depths k j h = get_or-take (128 * k + 128 - 128 * k) (drop (128 * k) depths) j 0 (omega arith) ∙ get_or-drop (128 * k) depths j 0

pub looked : (depths : List ℕ) (k : ℕ) (met : Bool) → 128 * k + 128 ≤ length depths
    → MatchBool met ((j : ℕ) × (j < length (row depths k)) × HoldsAt (λ depth. depth ≡ 0 → ⊥) (row depths k) j) (AllWithin (λ depth. depth ≡ 0) (row depths k) 0 (length (row depths k)))
    → met ≡ trained depths k
looked depths k true h found =
    let l : found.0 < 128 = omega (arith, found.1, length-take {A = ℕ}, length-drop {A = ℕ}) in
    word-met depths k found.0 l (rw (row-at depths k found.0 l) at (found.2 0))
looked depths k false h none =
    no-word-met depths k (each_all (lacks depths k) 128
    (λ j l. eq-eqb _ _ (sym (row-at depths k j l) ∙ none j 0 (omega arith) (omega (arith, length-take {A = ℕ}, length-drop {A = ℕ})))))

not-false : (b : Bool) → not b ≡ false → b ≡ true
not-false true e = refl
not-false false e = sym e

-- what that means of symbol j of cluster k
module _ (p : Prefix) (k j : ℕ) (h : j < 128) where
  here : (128 * k + j) / 128 ≡ k
  here = omega arith

  -- without a word: 15.0 throughout, whatever strict and the flag of a single symbol say
  pub untrained-costs-15 : trained p.depths k ≡ false → prefix_entry p (128 * k + j) ≡ fin false 15 (pos 0)
  unfolding trained prefix_entry row_entry unseen_price depth_price
  untrained-costs-15 e =
      let none = each_below (lacks p.depths k) 128 (not-false (each 128 (lacks p.depths k)) e) j h in
      rw (here, e, and-false, none)

  -- with one: as its depth says
  pub trained-costs : trained p.depths k ≡ true → prefix_entry p (128 * k + j) ≡ row_entry (unseen_price p.strict) (single_of p.singles k) p.depths (128 * k + j)
  unfolding prefix_entry
  trained-costs e = rw (here, e, and-true)
