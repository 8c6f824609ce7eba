-- Tokens that were added are taken out again, and the other way round: the tally is what it was. Assumes nothing.
use mathlib.Core.Path.{◌≡◌, refl, sym, ap, ap₂, ◌∙◌}
use mathlib.Core.Bool.{Bool, true, false, true≢false}
use mathlib.Core.Logic.{◌⊎◌, inl, inr}
use mathlib.Core.List.{List}
use Prim.Native.Nat.{ℕ, zero, suc, ◌+◌, ◌-◌, ◌≤◌, ◌<◌}
use native.Mathlib.Omega.{arith}
use borrow.Author.Tests.{le-leb, ltb-true, ltb-false}
use lib.Dec.{ltb}
use lib.ListN.{length, get_or}
use Rattle.tallying.specs.Uses.{Tokens, place_at, used_at, extra_used}
use Rattle.tallying.specs.Tally.{Tally, tally_of, plus, minus, many}
use Rattle.tallying.specs.Counting.{has_room, to_add, rest_to_add, to_remove, SomeAdded, SomeRemoved}
use Rattle.tallying.proofs.Checks.{Countable}
use Rattle.tallying.proofs.Entries.{plus-sized, minus-sized, plus-at, minus-at}
use Rattle.tallying.proofs.Lists.{listed_is}
use Rattle.tallying.proofs.Steps.{in-places}
use Rattle.tallying.proofs.Uses.{used-within, extra-within, place-room, extra-room}

either : (n : ℕ) → (n ≡ 0) ⊎ (1 ≤ n)
either zero = inl refl
either (suc n) = inr (omega arith)

module _ (map configs : List ℕ) (t : Tokens) (counts : List ℕ) (extra : ℕ) (K : Countable map configs t (length counts)) (n : ℕ) (few : n ≤ many t) where
  abbrev y : Tally
  y = tally_of counts extra

  abbrev u : ℕ → ℕ
  u s = used_at map configs t n s

  inside : (i : ℕ) → i < n → place_at map configs t i < length counts
  inside i h = in-places K i (omega (arith, h, few))

  -- ---- added, then taken out
  plus-extra : (plus map configs t n y).extra - extra_used map configs t n ≡ extra
  unfolding plus
  plus-extra = omega arith

  minus_plus : minus map configs t n (plus map configs t n y) ≡ y
  unfolding minus
  minus_plus =
      ap₂ (λ (c : List ℕ) (e : ℕ). tally_of c e)
      (listed_is (λ s. get_or (plus map configs t n y).counts s 0 - u s) (length (plus map configs t n y).counts) counts (sym (plus-sized map configs t n y))
      (λ i h. omega (arith, plus-at map configs t n y i (omega (arith, h, plus-sized map configs t n y)))))
      plus-extra

  room-after-add : (i : ℕ) → i < n → has_room map configs t (to_remove (plus map configs t n y)) (plus map configs t n y).extra i ≡ true
  unfolding plus
  room-after-add i h =
      rw (
        le-leb (used_at map configs t (suc i) (place_at map configs t i)) (get_or (plus map configs t n y).counts (place_at map configs t i) 0)
            (omega (arith, plus-at map configs t n y (place_at map configs t i) (inside i h), used-within map configs t (suc i) n (place_at map configs t i) h)),
        le-leb (extra_used map configs t (suc i)) (extra + extra_used map configs t n) (omega (arith, extra-within map configs t (suc i) n h)),
      )

  pub taken_back : {done : ℕ} {z : Tally} → SomeRemoved map configs t n (plus map configs t n y) done z → z ≡ y
  taken_back {done} {z} R = go (ltb done n) refl
    where
      go : (b : Bool) → ltb done n ≡ b → z ≡ y
      go true e =
          let h = ltb-true done n e in
          absurd (true≢false (sym (room-after-add done h) ∙ R.stopped h))
      go false e =
          let all : done ≡ n = omega (arith, R.few, ltb-false done n e) in
          R.tally ∙ ap (λ (m : ℕ). minus map configs t m (plus map configs t n y)) all ∙ minus_plus

  -- ---- taken out, then added
  module _ (had : (i : ℕ) → i < n → has_room map configs t (to_remove y) extra i ≡ true) (small : (s : ℕ) → get_or counts s 0 ≤ 4294967295) (total : extra ≤ 18446744073709551615) where
    at_most : (s : ℕ) → u s ≤ get_or counts s 0
    at_most s = go (either (u s))
      where
        go : (u s ≡ 0) ⊎ (1 ≤ u s) → u s ≤ get_or counts s 0
        go (inl e) = omega (arith, e)
        go (inr h) = place-room map configs t (to_remove y) extra n had s h

    bits_most : extra_used map configs t n ≤ extra
    bits_most = extra-room map configs t (to_remove y) extra n had

    minus-extra : (minus map configs t n y).extra + extra_used map configs t n ≡ extra
    unfolding minus
    minus-extra = omega (arith, bits_most)

    plus-minus : plus map configs t n (minus map configs t n y) ≡ y
    unfolding plus
    plus-minus =
        ap₂ (λ (c : List ℕ) (e : ℕ). tally_of c e)
        (listed_is (λ s. get_or (minus map configs t n y).counts s 0 + u s) (length (minus map configs t n y).counts) counts (sym (minus-sized map configs t n y))
        (λ i h. omega (arith, minus-at map configs t n y i (omega (arith, h, minus-sized map configs t n y)), at_most i)))
        minus-extra

    room-after-remove : (i : ℕ) → i < n → has_room map configs t (to_add (minus map configs t n y)) (rest_to_add (minus map configs t n y)) i ≡ true
    unfolding minus
    room-after-remove i h =
        let s = place_at map configs t i in
        rw (
          le-leb (used_at map configs t (suc i) s) (4294967295 - get_or (minus map configs t n y).counts s 0)
              (omega (arith, minus-at map configs t n y s (inside i h), used-within map configs t (suc i) n s h, at_most s, small s)),
          le-leb (extra_used map configs t (suc i)) (18446744073709551615 - (extra - extra_used map configs t n)) (omega (arith, extra-within map configs t (suc i) n h, bits_most, total)),
        )

    pub put_back : {done : ℕ} {z : Tally} → SomeAdded map configs t n (minus map configs t n y) done z → z ≡ y
    put_back {done} {z} A = go (ltb done n) refl
      where
        go : (b : Bool) → ltb done n ≡ b → z ≡ y
        go true e =
            let h = ltb-true done n e in
            absurd (true≢false (sym (room-after-remove done h) ∙ A.stopped h))
        go false e =
            let all : done ≡ n = omega (arith, A.few, ltb-false done n e) in
            A.tally ∙ ap (λ (m : ℕ). plus map configs t m (minus map configs t n y)) all ∙ plus-minus
