-- The returns of the two calls, as their definitions say it. Assumes nothing.
use mathlib.Core.Path.{◌≡◌, refl, sym, ◌∙◌}
use mathlib.Core.Bool.{Bool, true, false}
use Prim.Native.Nat.{ℕ, ◌+◌, ◌-◌, ◌≤◌, ◌<◌}
use native.Mathlib.Omega.{arith}
use borrow.Author.Tests.{ne_eqb, le-leb, lt-leb, leb-true, leb-false}
use lib.Dec.{leb}
use lib.ListN.{length, get_or}
use Rattle.coding.specs.Coding.{Coding}
use Rattle.laws.specs.Refusals.{first_refused}
use Rattle.prices.proofs.Each.{each_same}
use Rattle.tallying.specs.Uses.{Tokens, place_at, used_at, extra_used}
use Rattle.tallying.specs.Tally.{Tally, outcome_of, many, shared_checks, settled, added, removed, addable, removable, plus, minus}
use Rattle.tallying.specs.Counting.{has_room, all_room, to_add, rest_to_add, to_remove}
use mathlib.Core.List.{List}
use mathlib.Core.Path.{ap}
use Rattle.tallying.specs.Tally.{tally_of}
use Rattle.tallying.specs.declared.Change.{Change}
use Rattle.tallying.specs.declared.Change.TheVariants.{Add, Remove}
use Rattle.tallying.specs.Changes.{SomeCounted, outcome}
use Rattle.tallying.proofs.Checks.{shared-refused, shared-passed}
use Rattle.tallying.proofs.Uses.{all_have, one-lacks}

module _ (k : Coding) (t : Tokens) (y : Tally) (own : Bool) (n : ℕ) (after : Tally) where
  first-fails : {r : ℕ} → r ≡ first_refused (shared_checks k t (length y.counts)) 0 → (r ≡ 0 → ⊥) → outcome_of r y ≡ settled k t y (own, n) after
  unfolding settled
  first-fails e z =
      let whole = shared-refused k t y own n e z in
      rw (← whole, ne_eqb _ 0 z)

  module _ (ok : first_refused (shared_checks k t (length y.counts)) 0 ≡ 0) where
    own-fails : own ≡ false → (n ≡ 0 → ⊥) → outcome_of n y ≡ settled k t y (own, n) after
    unfolding settled
    own-fails e z = rw (shared-passed k t y own n ok, e, ne_eqb n 0 z)

    own-passes : own ≡ true → outcome_of 0 after ≡ settled k t y (own, n) after
    unfolding settled
    own-passes e = rw (shared-passed k t y own n ok, e)

-- what is left of a type, and what would pass it
left-of : (c u m : ℕ) → c ≤ m → leb (c + u) m ≡ leb u (m - c)
left-of c u m h = go (leb (c + u) m) refl
  where
    go : (b : Bool) → leb (c + u) m ≡ b → leb (c + u) m ≡ leb u (m - c)
    go true e = let l = leb-true (c + u) m e in e ∙ sym (le-leb u (m - c) (omega (arith, l)))
    go false e = let l = leb-false (c + u) m e in e ∙ sym (lt-leb u (m - c) (omega (arith, l, h)))

module _ (k : Coding) (t : Tokens) (y : Tally) where
  pub add-refused : {r : ℕ} → r ≡ first_refused (shared_checks k t (length y.counts)) 0 → (r ≡ 0 → ⊥) → outcome_of r y ≡ added k t y
  unfolding added
  add-refused e z = first-fails k t y (addable k t y) 27 _ e z

  pub remove-refused : {r : ℕ} → r ≡ first_refused (shared_checks k t (length y.counts)) 0 → (r ≡ 0 → ⊥) → outcome_of r y ≡ removed k t y
  unfolding removed
  remove-refused e z = first-fails k t y (removable k t y) 28 _ e z

  module _ (ok : first_refused (shared_checks k t (length y.counts)) 0 ≡ 0) where
    module _ (small : (s : ℕ) → get_or y.counts s 0 ≤ 4294967295) (total : y.extra ≤ 18446744073709551615) where
      addable-is : addable k t y ≡ all_room k.map k.configs t (to_add y) (rest_to_add y) (many t)
      unfolding addable
      addable-is =
          rw (
            each_same (λ i. leb (get_or y.counts (place_at k.map k.configs t i) 0 + used_at k.map k.configs t (many t) (place_at k.map k.configs t i)) 4294967295)
                (λ i. leb (used_at k.map k.configs t (many t) (place_at k.map k.configs t i)) (to_add y (place_at k.map k.configs t i))) (many t)
                (λ i h. left-of (get_or y.counts (place_at k.map k.configs t i) 0) _ 4294967295 (small (place_at k.map k.configs t i))),
            left-of y.extra (extra_used k.map k.configs t (many t)) 18446744073709551615 total,
          )

      pub add-full : (i : ℕ) → i < many t → has_room k.map k.configs t (to_add y) (rest_to_add y) i ≡ false → outcome_of 27 y ≡ added k t y
      unfolding added
      add-full i h e = own-fails k t y (addable k t y) 27 _ ok (addable-is ∙ one-lacks k.map k.configs t (to_add y) (rest_to_add y) (many t) i h e) (λ z. omega (arith, z))

      pub add_done : ((i : ℕ) → i < many t → has_room k.map k.configs t (to_add y) (rest_to_add y) i ≡ true) → outcome_of 0 (plus k.map k.configs t (many t) y) ≡ added k t y
      unfolding added
      add_done h = own-passes k t y (addable k t y) 27 _ ok (addable-is ∙ all_have k.map k.configs t (to_add y) (rest_to_add y) (many t) h)

    pub remove-empty : (i : ℕ) → i < many t → has_room k.map k.configs t (to_remove y) y.extra i ≡ false → outcome_of 28 y ≡ removed k t y
    unfolding removed removable
    remove-empty i h e = own-fails k t y (removable k t y) 28 _ ok (one-lacks k.map k.configs t (to_remove y) y.extra (many t) i h e) (λ z. omega (arith, z))

    pub remove-done : ((i : ℕ) → i < many t → has_room k.map k.configs t (to_remove y) y.extra i ≡ true) → outcome_of 0 (minus k.map k.configs t (many t) y) ≡ removed k t y
    unfolding removed removable
    remove-done h = own-passes k t y (removable k t y) 28 _ ok (all_have k.map k.configs t (to_remove y) y.extra (many t) h)

-- ---- whichever way a tally is changed
abbrev pub own : Change → ℕ
own Add = 27
own Remove = 28

module _ (k : Coding) (t : Tokens) (counts : List ℕ) (extra : ℕ) where
  module _ (ok : first_refused (shared_checks k t (length counts)) 0 ≡ 0) (small : (s : ℕ) → get_or counts s 0 ≤ 4294967295) (total : extra ≤ 18446744073709551615) where
    pub stopped : (change : Change) (done : ℕ) (z : Tally) → SomeCounted change k.map k.configs t (many t) (tally_of counts extra) done z → done < many t
        → outcome_of (own change) (tally_of counts extra) ≡ outcome change k t (tally_of counts extra)
    stopped Add done z S h = add-full k t (tally_of counts extra) ok small total done h (S.stopped h)
    stopped Remove done z S h = remove-empty k t (tally_of counts extra) ok done h (S.stopped h)

    pub finished : (change : Change) (z : Tally) → SomeCounted change k.map k.configs t (many t) (tally_of counts extra) (many t) z
        → outcome_of 0 z ≡ outcome change k t (tally_of counts extra)
    finished Add z S = ap (outcome_of 0) S.tally ∙ add_done k t (tally_of counts extra) ok small total S.fitted
    finished Remove z S = ap (outcome_of 0) S.tally ∙ remove-done k t (tally_of counts extra) ok S.fitted
