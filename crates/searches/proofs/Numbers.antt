-- Which numbers name a search. Assumes nothing.
use mathlib.Core.Path.{◌≡◌, refl, sym, ◌∙◌}
use mathlib.Core.Bool.{Bool, true, false, cond, true≢false}
use Prim.Native.Nat.{ℕ, ◌≤◌}
use borrow.Author.Tests.{le-leb}
use lib.Dec.{leb}
use Rattle.std.proofs.Common.{Ok, Err}
use Rattle.refusals.specs.Numbers.{number_of}
use Rattle.refusals.specs.declared.Refusal.{Refusal}
use Rattle.refusals.specs.declared.Refusal.TheVariants.{Domain}
use Rattle.searches.specs.Named.{IsNamed, search_named}
use Rattle.searches.specs.declared.Search.{Search}

-- a number that names a search is at most 3 ..
pub named : (n : ℕ) {search : Search} → IsNamed n (Ok search) → (leb n 3 ≡ true) × (search ≡ search_named n)
named n {search} told = go (leb n 3) refl told
  where
    go : (t : Bool) → leb n 3 ≡ t → Ok search ≡ cond t (Ok (search_named n)) (Err Domain) → (leb n 3 ≡ true) × (search ≡ search_named n)
    go true e told = (e, cc)
    go false e told = cc

-- .. and any other is refused by 17
pub not-named : (n : ℕ) {refusal : Refusal} → IsNamed n (Err refusal) → (leb n 3 ≡ false) × ((number_of refusal ≡ 17) × (n ≤ 3 → ⊥))
not-named n {refusal} told = go (leb n 3) refl told
  where
    go : (t : Bool) → leb n 3 ≡ t → Err refusal ≡ cond t (Ok (search_named n)) (Err Domain) → (leb n 3 ≡ false) × ((number_of refusal ≡ 17) × (n ≤ 3 → ⊥))
    go true e told = cc
    go false e told = (e, (cc, λ few. true≢false (sym (le-leb n 3 few) ∙ e)))
