-- A row that was worked out from the row after it stands for one position more. Assumes nothing.
use mathlib.Core.Path.{◌≡◌, refl, sym, ap, ◌∙◌, subst⁻¹}
use mathlib.Core.Bool.{Bool, true, false, cond, not, ◌&&◌, true≢false}
use mathlib.Core.List.{List, ◌∷◌, Memᴰ as Mem}
use Prim.Native.Nat.{ℕ, ◌+◌, ◌-◌, ◌*◌, ◌/◌, ◌%◌, ◌≤◌, ◌<◌}
use native.Mathlib.Omega.{arith}
use native.Mathlib.Nat.{le_trans}
use lib.IntN.{ℤ, pos}
use lib.Dec.{T, leb, not_T}
use lib.ListN.{get_or}
use lib.Ieee.{Float, nan, inf, add, binary32}
use lib.Ieee.Scale.{finite}
use borrow.Author.Tests.{leb-true, leb-false, le-leb}
use Rattle.costs.specs.Cost.{cost}
use Rattle.costs.proofs.Order.{infinite}
use Rattle.least_cost.specs.Position.{Position, Tail, nz, within}
use Rattle.least_cost.specs.Search.{nonzeros, has_zero, best, pick}
use Rattle.least_cost.proofs.First.{least-same, holder-same}
use Rattle.least_cost.proofs.Step.{allowed-within}
use Rattle.least_cost.proofs.Trial.{nonzeros-listed, nz-le}
use Rattle.least_cost.proofs.Best.{AllPriced, best-costs, rest-priced}
use Rattle.least_cost.proofs.Row.{Agrees, best-row, pick-row}
use Rattle.least_cost.proofs.Range.{within-bounds}
use Rattle.prices.specs.Book.{Book}
use Rattle.steps.specs.Place.{local_at}
use Rattle.steps.specs.declared.Place.{Place}
use Rattle.trellis_choice.specs.Chosen.{with, nonzero_cost, zero_cost, state_cost, state_level}
use Rattle.trellis_row.specs.Row.{tail_at, nonzero_tail, zero_tail, row_cost, row_level, RowIs}
use Rattle.trellis_row.specs.Table.{RowFor, ChoicesFor}
use Rattle.trellis_row.specs.declared.row.Span.{Span}
use Rattle.trellis_choice.proofs.Choosing.{zero-listed}
use Rattle.trellis_row.proofs.Recursion.{state-best, state-pick}

-- ---- only the listed levels' local costs count
module _ (g k : ℤ → Float) (x z : Float) (levels : List ℤ) (same : (c : ℤ) → Mem c levels → g c ≡ k c) where
  sums_same : (c : ℤ) → Mem c (nonzeros levels) → with g x c ≡ with k x c
  sums_same c m = ap (λ (y : Float). add binary32 y x) (same c (nonzeros-listed levels c m))

  nonzero-same : nonzero_cost g x levels ≡ nonzero_cost k x levels
  unfolding nonzero_cost
  nonzero-same = least-same (with g x) (with k x) (inf false) (nonzeros levels) sums_same

  zero_same : zero_cost g z levels ≡ zero_cost k z levels
  unfolding zero_cost
  zero_same = go (has_zero levels) refl
    where
      go : (b : Bool) → has_zero levels ≡ b → cond b (with g z (pos 0)) (inf false) ≡ cond b (with k z (pos 0)) (inf false)
      go true h = ap (λ (y : Float). add binary32 y z) (same (pos 0) (zero-listed levels h))
      go false h = refl

  state-same : state_cost g x z levels ≡ state_cost k x z levels
  unfolding state_cost
  state-same = rw (nonzero-same, zero_same)

  level-same : state_level g x z levels ≡ state_level k x z levels
  unfolding state_level
  level-same = rw (nonzero-same, zero_same, holder-same (with g x) (with k x) (inf false) (pos 0) (nonzeros levels) sums_same)

-- ---- the span that may be read is what the band and the next row have in common
pub record Common (q : Position) (low high : ℕ) (s : Span) : Type 0 where
  pub base : s.base ≡ low
  pub lower : q.low ≤ s.from
  pub row-lower : low ≤ s.from
  pub upper : s.upto ≤ q.high
  pub row-upper : s.upto ≤ high
  pub whole : (r : ℕ) → q.low ≤ r → r ≤ q.high → low ≤ r → r ≤ high → (s.from ≤ r) × (r ≤ s.upto)

module _ (next : List Float) (q : Position) (low high : ℕ) (s : Span) (C : Common q low high s) where
  tail-barred : (r p : ℕ) → within q r ≡ false → tail_at next s r p ≡ inf false
  unfolding tail_at within
  tail-barred r p e = go (leb s.from r) refl (leb r s.upto) refl
    where
      go : (a : Bool) → leb s.from r ≡ a → (b : Bool) → leb r s.upto ≡ b → cond (a && b) (get_or next (2 * (r - s.base) + p) nan) (inf false) ≡ inf false
      go true f true h =
          let yes = le-leb q.low r (le_trans C.lower (leb-true _ _ f)) in
          let also = le-leb r q.high (le_trans (leb-true _ _ h) C.upper) in
          absurd (true≢false (rw (yes, also) at e))
      go true f false h = refl
      go false f b h = refl

  nonzero_is : (r : ℕ) → nonzero_tail next s r ≡ cond (leb 1 r && within q (r - 1)) (tail_at next s (r - 1) 1) (inf false)
  unfolding nonzero_tail
  nonzero_is r = go (leb 1 r) (within q (r - 1)) refl
    where
      go : (a b : Bool) → within q (r - 1) ≡ b → cond a (tail_at next s (r - 1) 1) (inf false) ≡ cond (a && b) (tail_at next s (r - 1) 1) (inf false)
      go true true e = refl
      go true false e = tail-barred (r - 1) 1 e
      go false b e = refl

  zero_is : (levels : List ℤ) (r : ℕ) → has_zero levels ≡ true → zero_tail levels next s r ≡ cond (within q r) (tail_at next s r 0) (inf false)
  unfolding zero_tail
  zero_is levels r h = rw h (go (within q r) refl)
    where
      go : (b : Bool) → within q r ≡ b → tail_at next s r 0 ≡ cond b (tail_at next s r 0) (inf false)
      go true e = refl
      go false e = tail-barred r 0 e

-- ---- the row after it says what follows
module _ (t : Tail) (q : Position) (qs : List Position) (Q : AllPriced t (q ∷ qs)) (next : List Float) (low high : ℕ) (s : Span) (C : Common q low high s) (R : RowFor t qs next low high) where
  tail-best : (r p : ℕ) → p ≤ 1 → T (within q r) → best t qs r p ≡ tail_at next s r p
  unfolding tail_at
  tail-best r p P h = go (leb s.from r) refl (leb r s.upto) refl
    where
      band : (q.low ≤ r) × (r ≤ q.high)
      band = within-bounds q r h

      -- where the span has it not, the next row has it not
      gone : ((low ≤ r) × (r ≤ high) → ⊥) → best t qs r p ≡ inf false
      gone n = infinite (best t qs r p) ((best-costs t qs (rest-priced Q)).costs r p P) (not_T (finite (best t qs r p)) (λ f. n (R.inside r p P f)))

      go : (a : Bool) → leb s.from r ≡ a → (b : Bool) → leb r s.upto ≡ b → best t qs r p ≡ cond (a && b) (get_or next (2 * (r - s.base) + p) nan) (inf false)
      go true e true f = sym (rw C.base (R.values r p (le_trans C.row-lower (leb-true _ _ e)) (le_trans (leb-true _ _ f) C.row-upper) P))
      go true e false f = gone (λ w. absurd (omega (arith, leb-false r s.upto f, (C.whole r band.0 band.1 w.0 w.1).1)))
      go false e b f = gone (λ w. absurd (omega (arith, leb-false s.from r e, (C.whole r band.0 band.1 w.0 w.1).0)))

  agrees : (r : ℕ) → Agrees t q qs r (tail_at next s)
  agrees r = record { agrees = λ c m a. tail-best (r - nz c) (nz c) (nz-le c) (allowed-within q r c a) }

  module _ (book : Book) (x : Place) (local : (r p : ℕ) (c : ℤ) → p ≤ 1 → local_at book x r p c ≡ q.price r p c)
      (costs : (r p : ℕ) (c : ℤ) → p ≤ 1 → Mem c q.candidates → T (cost (q.price r p c))) (tails : (r : ℕ) → T (cost (nonzero_tail next s r)))
      (least most at : ℕ) (row : List Float) (choices : List ℕ) (I : RowIs book x q.candidates next s least at (2 * (most + 1 - least)) row choices)
      (inside : (r p : ℕ) → p ≤ 1 → T (finite (best t (q ∷ qs) r p)) → (least ≤ r) × (r ≤ most)) where
    module _ (r p : ℕ) (P : p ≤ 1) (low' : least ≤ r) (high' : r ≤ most) where
      place : 2 * (r - least) + p < 2 * (most + 1 - least)
      place = omega arith

      count : least + (2 * (r - least) + p) / 2 ≡ r
      count = omega arith

      prev : (2 * (r - least) + p) % 2 ≡ p
      prev = omega arith

      cost_is : row_cost book x q.candidates next s least (2 * (r - least) + p) ≡ best t (q ∷ qs) r p
      unfolding row_cost
      cost_is =
          rw (count, prev)
          (state-same (local_at book x r p) (q.price r p) (nonzero_tail next s r) (zero_tail q.candidates next s r) q.candidates (λ c m. local r p c P)
          ∙ state-best q r p (tail_at next s) (nonzero_tail next s r) (zero_tail q.candidates next s r) (λ c m. costs r p c P m) (nonzero_is next q low high s C r) (zero_is next q low high s C q.candidates r) (tails r)
          ∙ sym (best-row t q qs r p (tail_at next s) (agrees r)))

      level_is : row_level book x q.candidates next s least (2 * (r - least) + p) ≡ pick t q qs r p
      unfolding row_level
      level_is =
          rw (count, prev)
          (level-same (local_at book x r p) (q.price r p) (nonzero_tail next s r) (zero_tail q.candidates next s r) q.candidates (λ c m. local r p c P)
          ∙ state-pick q r p (tail_at next s) (nonzero_tail next s r) (zero_tail q.candidates next s r) (λ c m. costs r p c P m) (nonzero_is next q low high s C r) (zero_is next q low high s C q.candidates r) (tails r)
          ∙ sym (pick-row t q qs r p (tail_at next s) (agrees r)))

      value : get_or row (2 * (r - least) + p) nan ≡ best t (q ∷ qs) r p
      value = (I.entry (2 * (r - least) + p) place).cost ∙ cost_is

    pub row-for : RowFor t (q ∷ qs) row least most
    row-for = record { values = λ r p l h P. value r p P l h; inside = inside }

    pub choices-for : ChoicesFor t q qs choices at least
    choices-for =
        record {
          picks = λ r p P f.
              let w = inside r p P f in
              (I.entry (2 * (r - least) + p) (place r p P w.0 w.1)).level (subst⁻¹ (λ (y : Float). T (finite y)) (value r p P w.0 w.1) f) ∙ level_is r p P w.0 w.1;
          below = λ r p P f.
              let w = inside r p P f in
              (I.entry (2 * (r - least) + p) (place r p P w.0 w.1)).below (subst⁻¹ (λ (y : Float). T (finite y)) (value r p P w.0 w.1) f);
        }

    -- and 255 where the state's least cost is infinite
    pub choices-none : (r p : ℕ) → p ≤ 1 → least ≤ r → r ≤ most → T (not (finite (best t (q ∷ qs) r p))) → get_or choices (at + (2 * (r - least) + p)) 0 ≡ 255
    choices-none r p P l h f = (I.entry (2 * (r - least) + p) (place r p P l h)).none (subst⁻¹ (λ (y : Float). T (not (finite y))) (value r p P l h) f)
