-- What tokens use, one token after the other, and whether there is room for it. Assumes nothing.
use mathlib.Core.Path.{◌≡◌, refl, sym, ap, ◌∙◌}
use mathlib.Core.Bool.{Bool, true, false, cond, ◌&&◌, and-false}
use mathlib.Core.List.{List}
use Prim.Native.Nat.{ℕ, zero, suc, ◌+◌, ◌-◌, ◌≤◌, ◌<◌}
use native.Mathlib.Nat.{zero-add, le_of_eq, le_trans}
use native.Mathlib.Omega.{arith}
use borrow.Author.Tests.{eq-eqb, ne_eqb, eqb-true, leb-true, leb-false, le-leb, lt-leb}
use lib.Dec.{eqb, leb}
use Rattle.laws.proofs.Tests.{and_left, and_right}
use Rattle.prices.proofs.Each.{each_all, each-fails}
use Rattle.tallying.specs.Uses.{Tokens, place_at, extra_at, used_at, extra_used}
use Rattle.tallying.specs.Counting.{has_room, all_room}

module _ (map configs : List ℕ) (t : Tokens) where
  pub used-here : (n : ℕ) → used_at map configs t (suc n) (place_at map configs t n) ≡ suc (used_at map configs t n (place_at map configs t n))
  unfolding used_at
  used-here n = rw (eq-eqb (place_at map configs t n) (place_at map configs t n) refl) (omega arith)

  pub used-else : (n s : ℕ) → (s ≡ place_at map configs t n → ⊥) → used_at map configs t (suc n) s ≡ used_at map configs t n s
  unfolding used_at
  used-else n s h = rw (ne_eqb (place_at map configs t n) s (λ e. h (sym e))) (omega arith)

  pub extra-next : (n : ℕ) → extra_used map configs t (suc n) ≡ extra_at map configs t n + extra_used map configs t n
  unfolding extra_used
  extra-next n = refl

  used_grows : (n s : ℕ) → used_at map configs t n s ≤ used_at map configs t (suc n) s
  unfolding used_at
  used_grows n s = omega arith

  used-more : (d n m s : ℕ) → m ≡ d + n → used_at map configs t n s ≤ used_at map configs t m s
  used-more zero n m s e = le_of_eq (ap (λ (x : ℕ). used_at map configs t x s) (sym (e ∙ zero-add n)))
  used-more (suc d) n zero s e = absurd (omega (arith, e))
  used-more (suc d) n (suc m) s e = le_trans (used-more d n m s (omega (arith, e))) (used_grows m s)

  pub used-within : (n m s : ℕ) → n ≤ m → used_at map configs t n s ≤ used_at map configs t m s
  used-within n m s h = used-more (m - n) n m s (omega arith)

  extra-more : (d n m : ℕ) → m ≡ d + n → extra_used map configs t n ≤ extra_used map configs t m
  extra-more zero n m e = le_of_eq (ap (extra_used map configs t) (sym (e ∙ zero-add n)))
  extra-more (suc d) n zero e = absurd (omega (arith, e))
  extra-more (suc d) n (suc m) e = le_trans (extra-more d n m (omega (arith, e))) (omega (arith, extra-next m))

  pub extra-within : (n m : ℕ) → n ≤ m → extra_used map configs t n ≤ extra_used map configs t m
  extra-within n m h = extra-more (m - n) n m (omega arith)

  pub used-some : (n i : ℕ) → i < n → 1 ≤ used_at map configs t n (place_at map configs t i)
  used-some n i h = omega (arith, used-here i, used-within (suc i) n (place_at map configs t i) h)

  -- there is room for so many tokens at each place, and for so many extra bits
  module _ (room : ℕ → ℕ) (rest : ℕ) where
    abbrev beside : ℕ → Bool
    beside i = has_room map configs t room rest i

    abbrev together : ℕ → Bool
    together n = all_room map configs t room rest n

    -- where each of them had room, no place holds more than its room
    pub place-room : (n : ℕ) → ((i : ℕ) → i < n → beside i ≡ true) → (s : ℕ) → 1 ≤ used_at map configs t n s → used_at map configs t n s ≤ room s
    unfolding used_at
    place-room zero h s some = absurd (omega (arith, some))
    place-room (suc n) h s some =
        go (eqb (place_at map configs t n) s) refl (place-room n (λ i l. h i (omega arith)) s) (h n (omega arith)) some
      where
        go : (b : Bool) → eqb (place_at map configs t n) s ≡ b → (1 ≤ used_at map configs t n s → used_at map configs t n s ≤ room s) → beside n ≡ true → 1 ≤ cond b 1 0 + used_at map configs t n s
            → cond b 1 0 + used_at map configs t n s ≤ room s
        go true e rest-fits here some =
            let same = eqb-true (place_at map configs t n) s e in
            let fits : used_at map configs t (suc n) (place_at map configs t n) ≤ room (place_at map configs t n) =
            leb-true (used_at map configs t (suc n) (place_at map configs t n)) (room (place_at map configs t n)) (and_left (leb (used_at map configs t (suc n) (place_at map configs t n)) (room (place_at map configs t n))) (leb (extra_used map configs t (suc n)) rest) here) in
            let used : 1 + used_at map configs t n s ≡ used_at map configs t (suc n) (place_at map configs t n) = rw same (omega (arith, rw same at (used-here n))) in
            omega (arith, fits, used, ap room same)
        go false e rest-fits here some = omega (arith, rest-fits (omega (arith, some)))

    pub extra-room : (n : ℕ) → ((i : ℕ) → i < n → beside i ≡ true) → extra_used map configs t n ≤ rest
    unfolding extra_used
    extra-room zero h = omega arith
    extra-room (suc n) h =
        leb-true _ _ (and_right (leb (used_at map configs t (suc n) (place_at map configs t n)) (room (place_at map configs t n))) (leb (extra_used map configs t (suc n)) rest) (h n (omega arith)))

    pub all_have : (n : ℕ) → ((i : ℕ) → i < n → beside i ≡ true) → together n ≡ true
    all_have n h =
        rw (each_all (λ i. leb (used_at map configs t n (place_at map configs t i)) (room (place_at map configs t i))) n (λ i l. le-leb (used_at map configs t n (place_at map configs t i)) (room (place_at map configs t i)) (place-room n h (place_at map configs t i) (used-some n i l))), le-leb (extra_used map configs t n) rest (extra-room n h))

    -- and where one of them had none, all together have none
    pub one-lacks : (n i : ℕ) → i < n → beside i ≡ false → together n ≡ false
    one-lacks n i l e = go (leb (used_at map configs t (suc i) (place_at map configs t i)) (room (place_at map configs t i))) refl e
      where
        go : (b : Bool) → leb (used_at map configs t (suc i) (place_at map configs t i)) (room (place_at map configs t i)) ≡ b → b && leb (extra_used map configs t (suc i)) rest ≡ false → together n ≡ false
        go true f h =
            let over = leb-false (extra_used map configs t (suc i)) rest h in
            rw (lt-leb (extra_used map configs t n) rest (omega (arith, over, extra-within (suc i) n l)), and-false)
        go false f h =
            let over = leb-false (used_at map configs t (suc i) (place_at map configs t i)) (room (place_at map configs t i)) f in
            rw (each-fails (λ j. leb (used_at map configs t n (place_at map configs t j)) (room (place_at map configs t j))) n i l (lt-leb (used_at map configs t n (place_at map configs t i)) (room (place_at map configs t i)) (omega (arith, over, used-within (suc i) n (place_at map configs t i) l))))
