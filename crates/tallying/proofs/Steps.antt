-- One token more: what the loops write, and where they stop. Assumes nothing.
use mathlib.Core.Path.{◌≡◌, refl, sym, ap, ◌∙◌}
use mathlib.Core.Bool.{true, false, and-false}
use mathlib.Core.List.{List}
use Prim.Native.Nat.{ℕ, suc, ◌+◌, ◌-◌, ◌≤◌, ◌<◌, zero-le}
use native.Mathlib.Nat.{min-le_right, not-suc-le-zero}
use native.Mathlib.Numerals.{add-one}
use native.Mathlib.Omega.{arith}
use borrow.Author.Count.{below_more}
use borrow.Author.Tests.{le-leb, lt-leb}
use lib.ListN.{length, get_or, set}
use Rattle.prices.specs.Book.{cluster_symbol}
use Rattle.tallying.specs.Uses.{Tokens, cluster_at, place_at, extra_at, used_at, extra_used}
use Rattle.tallying.specs.Tally.{listed, tally_of, many}
use Rattle.tallying.specs.Counting.{has_room, to_add, rest_to_add, to_remove}
use Rattle.tallying.proofs.Checks.{Countable}
use Rattle.tallying.proofs.Lists.{listed_is, listed_at, listed-set, listed-length}
use Rattle.tallying.proofs.Uses.{used-here, used-else, extra-next}

module _ (map configs : List ℕ) (t : Tokens) (counts : List ℕ) where
  -- the counts after the first n tokens, each of which does `op` to its count
  abbrev pub counted : (ℕ → ℕ → ℕ) → ℕ → List ℕ
  counted op n = listed (λ s. op (get_or counts s 0) (used_at map configs t n s)) 0 (length counts)

  pub counted_none : (op : ℕ → ℕ → ℕ) → ((x : ℕ) → op x 0 ≡ x) → counts ≡ counted op 0
  unfolding used_at
  counted_none op same = sym (listed_is (λ s. op (get_or counts s 0) 0) (length counts) counts refl (λ i h. same (get_or counts i 0)))

  pub counted_next : (op : ℕ → ℕ → ℕ) (n p x : ℕ) → p ≡ place_at map configs t n → p < length counts → x ≡ op (get_or counts p 0) (suc (used_at map configs t n p))
      → set (counted op n) p x ≡ counted op (suc n)
  counted_next op n p x e h is =
      let used : used_at map configs t (suc n) p ≡ suc (used_at map configs t n p) = rw e (used-here map configs t n) in
      ap (set (counted op n) p) (is ∙ ap (op (get_or counts p 0)) (sym used))
      ∙ listed-set (λ s. op (get_or counts s 0) (used_at map configs t n s)) (λ s. op (get_or counts s 0) (used_at map configs t (suc n) s)) (length counts) p h
      (λ i d. ap (op (get_or counts i 0)) (used-else map configs t n i (λ k. d (k ∙ sym e))))

  pub counted-at : (op : ℕ → ℕ → ℕ) (n p : ℕ) → p < length counts → get_or (counted op n) p 0 ≡ op (get_or counts p 0) (used_at map configs t n p)
  counted-at op n p h = listed_at (λ s. op (get_or counts s 0) (used_at map configs t n s)) (length counts) p h

  -- ---- whether token n has room beside those before it
  module _ (extra n p e : ℕ) (place : p ≡ place_at map configs t n) (more : e ≡ extra_at map configs t n) where
    used : used_at map configs t (suc n) (place_at map configs t n) ≡ suc (used_at map configs t n p)
    used = rw place (used-here map configs t n)

    lacks-place : (room : ℕ → ℕ) (rest : ℕ) → room p ≤ used_at map configs t n p → has_room map configs t room rest n ≡ false
    lacks-place room rest h = rw (lt-leb (used_at map configs t (suc n) (place_at map configs t n)) (room (place_at map configs t n)) (omega (arith, used, h, ap room place)))

    lacks-bits : (room : ℕ → ℕ) (rest : ℕ) → rest < e + extra_used map configs t n → has_room map configs t room rest n ≡ false
    lacks-bits room rest h = rw (lt-leb (extra_used map configs t (suc n)) rest (omega (arith, h, more, extra-next map configs t n)), and-false)

    has_both : (room : ℕ → ℕ) (rest : ℕ) → used_at map configs t n p < room p → e + extra_used map configs t n ≤ rest → has_room map configs t room rest n ≡ true
    has_both room rest h g =
        rw (
          le-leb (used_at map configs t (suc n) (place_at map configs t n)) (room (place_at map configs t n)) (omega (arith, used, h, ap room place)),
          le-leb (extra_used map configs t (suc n)) rest (omega (arith, g, more, extra-next map configs t n)),
        )

    pub add-full : 4294967295 ≤ get_or counts p 0 + used_at map configs t n p → has_room map configs t (to_add (tally_of counts extra)) (rest_to_add (tally_of counts extra)) n ≡ false
    add-full h = lacks-place (to_add (tally_of counts extra)) _ (omega (arith, h))

    pub add-over : extra ≤ 18446744073709551615 → 18446744073709551615 < extra + extra_used map configs t n + e → has_room map configs t (to_add (tally_of counts extra)) (rest_to_add (tally_of counts extra)) n ≡ false
    add-over g h = lacks-bits (to_add (tally_of counts extra)) (rest_to_add (tally_of counts extra)) (omega (arith, g, h))

    pub add-fits : get_or counts p 0 + used_at map configs t n p < 4294967295 → extra + extra_used map configs t n + e ≤ 18446744073709551615
        → has_room map configs t (to_add (tally_of counts extra)) (rest_to_add (tally_of counts extra)) n ≡ true
    add-fits h g = has_both (to_add (tally_of counts extra)) (rest_to_add (tally_of counts extra)) (omega (arith, h)) (omega (arith, g))

    pub remove-empty : get_or counts p 0 - used_at map configs t n p ≡ 0 → has_room map configs t (to_remove (tally_of counts extra)) extra n ≡ false
    remove-empty h = lacks-place (to_remove (tally_of counts extra)) extra (omega (arith, h))

    pub remove-under : extra_used map configs t n ≤ extra → extra - extra_used map configs t n < e → has_room map configs t (to_remove (tally_of counts extra)) extra n ≡ false
    remove-under g h = lacks-bits (to_remove (tally_of counts extra)) extra (omega (arith, h, g))

    pub remove-fits : 0 < get_or counts p 0 - used_at map configs t n p → extra_used map configs t n ≤ extra → e ≤ extra - extra_used map configs t n
        → has_room map configs t (to_remove (tally_of counts extra)) extra n ≡ true
    remove-fits h g l = has_both (to_remove (tally_of counts extra)) extra (omega (arith, h)) (omega (arith, l, g))

-- ---- a token's place
module _ {map configs : List ℕ} {t : Tokens} {places : ℕ} (K : Countable map configs t places) (i : ℕ) (h : i < many t) where
  pub in-places : place_at map configs t i < places
  unfolding place_at cluster_at
  in-places =
      let below = K.codes.cluster (get_or t.contexts i 0) (omega (arith, K.context i h)) in
      omega (arith, below, K.places_are, min-le_right (cluster_symbol configs (get_or map (get_or t.contexts i 0) 0) (get_or t.values i 0)) 127)

-- ---- a loop under way: i tokens have done `op` to their counts and to the total, and each had room
pub record Going (op : ℕ → ℕ → ℕ) (room : ℕ → ℕ) (rest : ℕ) (map configs : List ℕ) (t : Tokens) (n : ℕ) (counts : List ℕ) (extra : ℕ) (held : List ℕ) (total i : ℕ) : Type 0 where
  pub few : i ≤ n
  pub counts_are : held ≡ counted map configs t counts op i
  pub total-is : total ≡ op extra (extra_used map configs t i)
  pub fitted : (j : ℕ) → j < i → has_room map configs t room rest j ≡ true

module _ (op : ℕ → ℕ → ℕ) (room : ℕ → ℕ) (rest : ℕ) (map configs : List ℕ) (t : Tokens) (n : ℕ) (counts : List ℕ) (extra : ℕ) where
  pub going-none : ((x : ℕ) → op x 0 ≡ x) → Going op room rest map configs t n counts extra counts extra 0
  unfolding extra_used
  going-none same =
      record { few = zero-le; counts_are = counted_none map configs t counts op same; total-is = sym (same extra); fitted = λ j h. absurd (not-suc-le-zero h) }

  module _ {held : List ℕ} {total i : ℕ} (G : Going op room rest map configs t n counts extra held total i) where
    pub going-length : length held ≡ length counts
    going-length = ap length G.counts_are ∙ listed-length (λ s. op (get_or counts s 0) (used_at map configs t i s)) 0 (length counts)

    pub going-at : (p : ℕ) → p < length counts → get_or held p 0 ≡ op (get_or counts p 0) (used_at map configs t i p)
    going-at p h = ap (λ (l : List ℕ). get_or l p 0) G.counts_are ∙ counted-at map configs t counts op i p h

    pub going_next : (p x next : ℕ) → i < n → p ≡ place_at map configs t i → p < length counts → x ≡ op (get_or counts p 0) (suc (used_at map configs t i p))
        → next ≡ op extra (extra_at map configs t i + extra_used map configs t i) → has_room map configs t room rest i ≡ true
        → Going op room rest map configs t n counts extra (set held p x) next (i + 1)
    going_next p x next l e h is sum has =
        record {
          few = omega (arith, l);
          counts_are = rw (add-one i) (ap (λ (z : List ℕ). set z p x) G.counts_are ∙ counted_next map configs t counts op i p x e h is);
          total-is = rw (add-one i) (sum ∙ ap (op extra) (sym (extra-next map configs t i)));
          fitted = below_more _ _ G.fitted has;
        }
