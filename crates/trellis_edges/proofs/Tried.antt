-- The edges of a row, one after another. Assumes nothing.
use mathlib.Core.Path.{◌≡◌, refl, sym, ap, ◌∙◌, subst}
use mathlib.Core.Bool.{Bool, true, false, cond, and-false, or-true}
use mathlib.Core.List.Memᴰ.{head as here}
use mathlib.Core.List.Memᴰ.{tail as there}
use mathlib.Core.List.{List, [], ◌∷◌, ◌++◌, Memᴰ as Mem}
use Prim.Native.Nat.{ℕ, zero, suc, zero-le, ◌+◌, ◌-◌, ◌*◌, ◌/◌, ◌%◌, ◌≤◌, ◌<◌}
use native.Mathlib.Omega.{arith}
use native.Mathlib.Nat.{le_of_suc-le-suc}
use native.Mathlib.Numerals.{add-one}
use lib.IntN.{ℤ, pos}
use lib.Dec.{T, eqb, leb, ltb}
use lib.ListN.{length, get_or, set, take, length-set}
use lib.Seq.{get_or-set_same, get_or-set_other, take-suc, take-length}
use lib.Ieee.{Float, nan, inf, lt, add, binary32}
use borrow.Author.Tests.{eqb-true, eqb-false, ltb-true, ltb-false, leb-true, le-leb, lt-leb}
use Rattle.costs.specs.Cost.{cost}
use Rattle.costs.proofs.Sum.{add-inf}
use Rattle.least_cost.specs.Position.{nz}
use Rattle.least_cost.specs.Search.{has_zero}
use Rattle.prices.specs.Book.{Book}
use Rattle.steps.specs.Place.{context_at, local_in, local_at}
use Rattle.steps.specs.declared.Place.{Place}
use Rattle.trellis_choice.specs.Chosen.{with, state_cost, state_level}
use Rattle.trellis_choice.proofs.Noting.{zero_is, nz-one}
use Rattle.trellis_row.specs.Row.{tail_at, nonzero_tail, zero_tail, row_cost, row_level, EntryIs, RowIs, Elsewhere, Workable}
use Rattle.trellis_row.specs.declared.row.Span.{Span}
use Rattle.trellis_row.proofs.Rows.{nonzero-tail-cost, zero-tail-cost, not-below, elsewhere-pair}
use Rattle.trellis_edges.specs.Edges.{lesser, choice_of, tried_cost, tried_level, Held, StateIs, Updated, Tried, Cleared}
use Rattle.trellis_edges.proofs.Held.{held_none, held-no-zero, held-no-other, held-nonzero, held-zero, unchanged, held-dead-nonzeros, held-dead-zero}

-- ---- what follows outside the span is infinite
module _ (next : List Float) (s : Span) (r : ℕ) where
  tail-early : (p : ℕ) → r < s.from → tail_at next s r p ≡ inf false
  unfolding tail_at
  tail-early p h = rw (lt-leb _ _ h)

  tail-late : (p : ℕ) → s.upto < r → tail_at next s r p ≡ inf false
  unfolding tail_at
  tail-late p h = rw (lt-leb _ _ h, and-false)

  nonzero-dead : (1 ≤ r → tail_at next s (r - 1) 1 ≡ inf false) → nonzero_tail next s r ≡ inf false
  unfolding nonzero_tail
  nonzero-dead k = go (leb 1 r) refl
    where
      go : (b : Bool) → leb 1 r ≡ b → cond b (tail_at next s (r - 1) 1) (inf false) ≡ inf false
      go true e = k (leb-true 1 r e)
      go false e = refl

  zero-dead : (levels : List ℤ) → tail_at next s r 0 ≡ inf false → zero_tail levels next s r ≡ inf false
  unfolding zero_tail
  zero-dead levels e = go (has_zero levels)
    where
      go : (b : Bool) → cond b (tail_at next s r 0) (inf false) ≡ inf false
      go true = e
      go false = refl

  -- an edge's tail
  nonzero_follows : nonzero_tail next s (r + 1) ≡ tail_at next s r 1
  unfolding nonzero_tail
  nonzero_follows = rw (le-leb 1 (r + 1) (omega arith)) (ap (λ (n : ℕ). tail_at next s n 1) (omega arith))

  zero_follows : (levels : List ℤ) → has_zero levels ≡ true → zero_tail levels next s r ≡ tail_at next s r 0
  unfolding zero_tail
  zero_follows levels e = rw e

-- ---- the level at an index
has-at : (levels : List ℤ) (j : ℕ) → j < length levels → nz (get_or levels j (pos 0)) ≡ 0 → has_zero levels ≡ true
unfolding has_zero
has-at [] j h e = absurd (omega arith)
has-at (q ∷ qs) zero h e = rw e
has-at (q ∷ qs) (suc j) h e = rw (has-at qs j (le_of_suc-le-suc h) e) (or-true (eqb (nz q) 0))

mem-at : (levels : List ℤ) (j : ℕ) → j < length levels → Mem (get_or levels j (pos 0)) levels
mem-at [] j h = absurd (omega arith)
mem-at (q ∷ qs) zero h = here refl
mem-at (q ∷ qs) (suc j) h = there (mem-at qs j (le_of_suc-le-suc h))

-- ---- a pair written into a row, and into the choices from `at` on
pub record Written (at i : ℕ) (a b : Float) (m n : ℕ) (row row' : List Float) (choices choices' : List ℕ) : Type 0 where
  pub room : i + 1 < length row
  pub space : at + i + 1 < length choices
  pub costs : row' ≡ set (set row i a) (i + 1) b
  pub marks : choices' ≡ set (set choices (at + i) m) (at + i + 1) n

module _ (P : Float → ℕ → Type 0) {at i : ℕ} {a b : Float} {m n : ℕ} {row row' : List Float} {choices choices' : List ℕ} (w : Written at i a b m n row row' choices choices') (q : ℕ) where
  pair-other : (q ≡ i → ⊥) → (q ≡ i + 1 → ⊥) → P (get_or row q nan) (get_or choices (at + q) 0) → P (get_or row' q nan) (get_or choices' (at + q) 0)
  pair-other h k v =
      rw (
        w.costs,
        w.marks,
        get_or-set_other (set row i a) (i + 1) q b nan k,
        get_or-set_other row i q a nan h,
        get_or-set_other (set choices (at + i) m) (at + i + 1) (at + q) n 0 (λ e. k (omega arith)),
        get_or-set_other choices (at + i) (at + q) m 0 (λ e. h (omega arith)),
      ) v

  pair-first : q ≡ i → P a m → P (get_or row' q nan) (get_or choices' (at + q) 0)
  pair-first h v =
      rw (
        w.costs,
        w.marks,
        h,
        get_or-set_other (set row i a) (i + 1) i b nan (λ e. absurd (omega arith)),
        get_or-set_same row i a nan (omega (arith, w.room)),
        get_or-set_other (set choices (at + i) m) (at + i + 1) (at + i) n 0 (λ e. absurd (omega arith)),
        get_or-set_same choices (at + i) m 0 (omega (arith, w.space)),
      ) v

  pair-second : q ≡ i + 1 → P b n → P (get_or row' q nan) (get_or choices' (at + q) 0)
  pair-second h v =
      let past : at + q ≡ at + i + 1 = omega arith in
      rw (
        past,
        w.costs,
        w.marks,
        h,
        get_or-set_same (set row i a) (i + 1) b nan (simp length-set w.room),
        get_or-set_same (set choices (at + i) m) (at + i + 1) n 0 (simp length-set w.space),
      ) v

-- an edge's pair
module _ {at i j : ℕ} {u y : Float} {row row' : List Float} {choices choices' : List ℕ} (room : i + 1 < length row) (space : at + i + 1 < length choices) (k : Updated at i j u y row row' choices choices') where
  written_of : Written at i (lesser u (get_or row i nan)) (lesser y (get_or row (i + 1) nan)) (choice_of u (get_or row i nan) j (get_or choices (at + i) 0))
      (choice_of y (get_or row (i + 1) nan) j (get_or choices (at + i + 1) 0)) row row' choices choices'
  written_of = record { room = room; space = space; costs = k.costs; marks = k.marks }

  module _ (P : Float → ℕ → Type 0) (q : ℕ) where
    updated-other : (q ≡ i → ⊥) → (q ≡ i + 1 → ⊥) → P (get_or row q nan) (get_or choices (at + q) 0) → P (get_or row' q nan) (get_or choices' (at + q) 0)
    updated-other h l v = pair-other P written_of q h l v

    updated-first : {u' : Float} → q ≡ i → u ≡ u' → P (lesser u' (get_or row q nan)) (choice_of u' (get_or row q nan) j (get_or choices (at + q) 0)) → P (get_or row' q nan) (get_or choices' (at + q) 0)
    updated-first h e v = pair-first P written_of q h (rw (e, ← h) v)

    updated-second : {y' : Float} → q ≡ i + 1 → y ≡ y' → P (lesser y' (get_or row q nan)) (choice_of y' (get_or row q nan) j (get_or choices (at + q) 0)) → P (get_or row' q nan) (get_or choices' (at + q) 0)
    updated-second h e v =
        let past : at + q ≡ at + i + 1 = omega arith in
        pair-second P written_of q h (rw (e, ← past, ← h) v)

-- the pair of count n leaves the states of every other count
module _ (book : Book) (x : Place) (levels : List ℤ) (next : List Float) (s : Span) {least at n j : ℕ} {u y : Float} {row row' : List Float} {choices choices' : List ℕ}
    (low : least ≤ n) (room : 2 * (n - least) + 1 < length row) (space : at + 2 * (n - least) + 1 < length choices) (k : Updated at (2 * (n - least)) j u y row row' choices choices') where
  other-count : (r p : ℕ) (ns zs : List ℤ) → least ≤ r → p ≤ 1 → (r ≡ n → ⊥) → StateIs book x levels next s least at row choices r p ns zs → StateIs book x levels next s least at row' choices' r p ns zs
  other-count r p ns zs l P differs v =
      let first : 2 * (r - least) + p ≡ 2 * (n - least) → ⊥ = λ z. differs (omega arith) in
      let second : 2 * (r - least) + p ≡ 2 * (n - least) + 1 → ⊥ = λ z. differs (omega arith) in
      updated-other room space k (Held (local_at book x r p) (nonzero_tail next s r) (zero_tail levels next s r) levels ns zs) (2 * (r - least) + p) first second v

module _ {book : Book} {x : Place} {levels : List ℤ} {next : List Float} {s : Span} {most : ℕ} (w : Workable book x levels next s most) {least at : ℕ} {row : List Float} {choices : List ℕ} where
  -- ---- no edge yet
  module _ (k : Cleared at (2 * (most + 1 - least)) row choices) where
    none_tried : (r p : ℕ) → least ≤ r → r ≤ most → p ≤ 1 → StateIs book x levels next s least at row choices r p [] []
    none_tried r p low high P = let h : 2 * (r - least) + p < 2 * (most + 1 - least) = omega arith in held_none _ _ _ _ (k.costs _ h) (k.marks _ h)

    nonzeros-early : (r p : ℕ) → least ≤ r → r ≤ most → p ≤ 1 → r ≤ s.from → StateIs book x levels next s least at row choices r p levels []
    nonzeros-early r p low high P h =
        held-dead-nonzeros (λ q m. w.locals r p q high P m) (nonzero-dead next s r (λ k. tail-early next s (r - 1) 1 (omega arith))) (none_tried r p low high P)

    pub tried-none : Tried book x levels next s least most at s.from 0 row choices
    tried-none =
        record {
          done = λ r p low high P h.
              held-dead-zero (λ q m. w.locals r p q high P m) (zero-dead next s r levels (tail-early next s r 0 h)) (nonzeros-early r p low high P (omega arith));
          here = λ p low high P. nonzeros-early s.from p low high P (omega arith);
          next_one = λ p low high P. none_tried (s.from + 1) p low high P;
          above = λ r p low high P h. none_tried r p low high P;
        }

  -- ---- an edge more
  module _ {n j : ℕ} (J : j < length levels) (t : Tried book x levels next s least most at n j row choices) where
    grown : take (j + 1) levels ≡ take j levels ++ (get_or levels j (pos 0) ∷ [])
    grown = ap (λ (k : ℕ). take k levels) (add-one j) ∙ take-suc levels j (pos 0) J

    local-cost : (r p : ℕ) → r ≤ most → p ≤ 1 → T (cost (local_at book x r p (get_or levels j (pos 0))))
    local-cost r p high P = w.locals r p _ high P (mem-at levels j J)

    -- over a nonzero level
    module _ (one : nz (get_or levels j (pos 0)) ≡ 1) where
      here-stays : (p : ℕ) → least ≤ n → n ≤ most → p ≤ 1 → StateIs book x levels next s least at row choices n p levels (take (j + 1) levels)
      here-stays p low high P = rw grown (held-no-other _ one (t.here p low high P))

      nonzero-sum : (p : ℕ) → with (local_at book x (n + 1) p) (tail_at next s n 1) (get_or levels j (pos 0)) ≡ with (local_at book x (n + 1) p) (nonzero_tail next s (n + 1)) (get_or levels j (pos 0))
      nonzero-sum p = rw (nonzero_follows next s n)

      abbrev NextHeld : ℕ → Float → ℕ → Type 0
      NextHeld p = Held (local_at book x (n + 1) p) (nonzero_tail next s (n + 1)) (zero_tail levels next s (n + 1)) levels (take (j + 1) levels) []

      next_grows : (p : ℕ) → least ≤ n + 1 → n + 1 ≤ most → p ≤ 1
          → let u = with (local_at book x (n + 1) p) (nonzero_tail next s (n + 1)) (get_or levels j (pos 0)) in
          let v = get_or row (2 * (n + 1 - least) + p) nan in
          NextHeld p (lesser u v) (choice_of u v j (get_or choices (at + (2 * (n + 1 - least) + p)) 0))
      next_grows p low high P = rw grown (held-nonzero j J _ one refl (local-cost (n + 1) p high P) (nonzero-tail-cost w (n + 1)) (t.next_one p low high P))

      pub skip-nonzero : (least ≤ n + 1 → n + 1 ≤ most → tail_at next s n 1 ≡ inf false) → Tried book x levels next s least most at n (j + 1) row choices
      skip-nonzero dead =
          record {
            done = t.done;
            here = here-stays;
            next_one = λ p low high P.
                unchanged _ j (ap (add binary32 _) (nonzero_follows next s n ∙ dead low high) ∙ add-inf binary32 _ (local-cost (n + 1) p high P)) (next_grows p low high P);
            above = t.above;
          }

      pub edge-nonzero : {u y : Float} {row' : List Float} {choices' : List ℕ} → least ≤ n + 1 → n + 1 ≤ most
          → u ≡ with (local_at book x (n + 1) 0) (tail_at next s n 1) (get_or levels j (pos 0)) → y ≡ with (local_at book x (n + 1) 1) (tail_at next s n 1) (get_or levels j (pos 0))
          → 2 * (n + 1 - least) + 1 < length row → at + 2 * (n + 1 - least) + 1 < length choices → Updated at (2 * (n + 1 - least)) j u y row row' choices choices'
          → Tried book x levels next s least most at n (j + 1) row' choices'
      edge-nonzero {row' = row'} {choices' = choices'} low high e f room space k =
          let other = other-count book x levels next s low room space k in
          record {
            done = λ r p l h P b. other r p _ _ l P (λ z. absurd (omega arith)) (t.done r p l h P b);
            here = λ p l h P. other n p _ _ l P (λ z. absurd (omega arith)) (here-stays p l h P);
            next_one = λ p l h P. go p P;
            above = λ r p l h P b. other r p _ _ l P (λ z. absurd (omega arith)) (t.above r p l h P b);
          }
        where
          go : (p : ℕ) → p ≤ 1 → StateIs book x levels next s least at row' choices' (n + 1) p (take (j + 1) levels) []
          go zero P = updated-first room space k (NextHeld 0) (2 * (n + 1 - least) + 0) (omega arith) (e ∙ nonzero-sum 0) (next_grows 0 low high P)
          go (suc zero) P = updated-second room space k (NextHeld 1) (2 * (n + 1 - least) + 1) (omega arith) (f ∙ nonzero-sum 1) (next_grows 1 low high P)
          go (suc (suc p)) P = absurd (omega arith)

    -- over 0
    module _ (none : nz (get_or levels j (pos 0)) ≡ 0) where
      level-zero : get_or levels j (pos 0) ≡ pos 0
      level-zero = zero_is _ none

      zero-tail : zero_tail levels next s n ≡ tail_at next s n 0
      zero-tail = zero_follows next s n levels (has-at levels j J none)

      zero-sum : (p : ℕ) → with (local_at book x n p) (tail_at next s n 0) (get_or levels j (pos 0)) ≡ with (local_at book x n p) (zero_tail levels next s n) (pos 0)
      zero-sum p = rw (level-zero, zero-tail)

      zero-cost : (r p : ℕ) → r ≤ most → p ≤ 1 → T (cost (local_at book x r p (pos 0)))
      zero-cost r p high P = rw level-zero at (local-cost r p high P)

      next-stays : (p : ℕ) → least ≤ n + 1 → n + 1 ≤ most → p ≤ 1 → StateIs book x levels next s least at row choices (n + 1) p (take (j + 1) levels) []
      next-stays p low high P = rw grown (held-no-zero _ none (t.next_one p low high P))

      abbrev HereHeld : ℕ → Float → ℕ → Type 0
      HereHeld p = Held (local_at book x n p) (nonzero_tail next s n) (zero_tail levels next s n) levels levels (take (j + 1) levels)

      here-grows : (p : ℕ) → least ≤ n → n ≤ most → p ≤ 1
          → let u = with (local_at book x n p) (zero_tail levels next s n) (pos 0) in
          let v = get_or row (2 * (n - least) + p) nan in
          HereHeld p (lesser u v) (choice_of u v j (get_or choices (at + (2 * (n - least) + p)) 0))
      here-grows p low high P = rw grown (held-zero j J _ none level-zero (zero-cost n p high P) (zero-tail-cost w levels n) (t.here p low high P))

      pub skip-zero : (least ≤ n → n ≤ most → tail_at next s n 0 ≡ inf false) → Tried book x levels next s least most at n (j + 1) row choices
      skip-zero dead =
          record {
            done = t.done;
            here = λ p low high P. unchanged _ j (ap (add binary32 _) (zero-tail ∙ dead low high) ∙ add-inf binary32 _ (zero-cost n p high P)) (here-grows p low high P);
            next_one = next-stays;
            above = t.above;
          }

      pub edge-zero : {u y : Float} {row' : List Float} {choices' : List ℕ} → least ≤ n → n ≤ most
          → u ≡ with (local_at book x n 0) (tail_at next s n 0) (get_or levels j (pos 0)) → y ≡ with (local_at book x n 1) (tail_at next s n 0) (get_or levels j (pos 0))
          → 2 * (n - least) + 1 < length row → at + 2 * (n - least) + 1 < length choices → Updated at (2 * (n - least)) j u y row row' choices choices'
          → Tried book x levels next s least most at n (j + 1) row' choices'
      edge-zero {row' = row'} {choices' = choices'} low high e f room space k =
          let other = other-count book x levels next s low room space k in
          record {
            done = λ r p l h P b. other r p _ _ l P (λ z. absurd (omega arith)) (t.done r p l h P b);
            here = λ p l h P. go p P;
            next_one = λ p l h P. other (n + 1) p _ _ l P (λ z. absurd (omega arith)) (next-stays p l h P);
            above = λ r p l h P b. other r p _ _ l P (λ z. absurd (omega arith)) (t.above r p l h P b);
          }
        where
          go : (p : ℕ) → p ≤ 1 → StateIs book x levels next s least at row' choices' n p levels (take (j + 1) levels)
          go zero P = updated-first room space k (HereHeld 0) (2 * (n - least) + 0) (omega arith) (e ∙ zero-sum 0) (here-grows 0 low high P)
          go (suc zero) P = updated-second room space k (HereHeld 1) (2 * (n - least) + 1) (omega arith) (f ∙ zero-sum 1) (here-grows 1 low high P)
          go (suc (suc p)) P = absurd (omega arith)

    -- ---- the same as the code has it: q is the level, o what it counts, and r the count that its edge leads to
    module _ {q : ℤ} {o r : ℕ} (same : q ≡ get_or levels j (pos 0)) (counts : o ≡ nz q) (to : r ≡ n + o) where
      abbrev Onward : List Float → List ℕ → Type 0
      Onward row' choices' = Tried book x levels next s least most at n (j + 1) row' choices'

      by_level : {row' : List Float} {choices' : List ℕ} → (nz (get_or levels j (pos 0)) ≡ 0 → o ≡ 0 → r ≡ n → Onward row' choices') → (nz (get_or levels j (pos 0)) ≡ 1 → o ≡ 1 → r ≡ n + 1 → Onward row' choices') → Onward row' choices'
      by_level {row'} {choices'} none one = go (eqb (nz (get_or levels j (pos 0))) 0) refl
        where
          counted : o ≡ nz (get_or levels j (pos 0))
          counted = counts ∙ ap nz same

          go : (b : Bool) → eqb (nz (get_or levels j (pos 0))) 0 ≡ b → Onward row' choices'
          go true e = let k = eqb-true _ 0 e in none k (counted ∙ k) (omega (arith, counted ∙ k))
          go false e = let k = nz-one _ (eqb-false _ 0 e) in one k (counted ∙ k) (omega (arith, counted ∙ k))

      -- the count lies outside the row
      pub outside : (least ≤ r → r ≤ most → ⊥) → Onward row choices
      outside out =
          by_level (λ none e f. skip-zero none (λ low high. absurd (out (rw f low) (rw f high)))) (λ one e f. skip-nonzero one (λ low high. absurd (out (rw f low) (rw f high))))

      -- nothing finite follows
      pub dead : {tail none : Float} → tail ≡ tail_at next s n o → none ≡ inf false → lt tail none ≡ false → Onward row choices
      dead {tail} e i k =
          by_level
          (λ none f g. skip-zero none (λ low high. infinite (subst (λ (y : Float). T (cost y)) (zero-tail none) (zero-tail-cost w levels n)) (rw f at e)))
          (λ one f g. skip-nonzero one (λ low high. infinite (subst (λ (y : Float). T (cost y)) (nonzero_follows next s n) (nonzero-tail-cost w (n + 1))) (rw f at e)))
        where
          infinite : {y : Float} → T (cost y) → tail ≡ y → y ≡ inf false
          infinite {y} C f = not-below y C (rw (f, i) at k)

      pub edge : {context : ℕ} {a b tail : Float} {row' : List Float} {choices' : List ℕ} → least ≤ r → r ≤ most → tail ≡ tail_at next s n o → context ≡ context_at x r
          → a ≡ local_in book x context 0 q → b ≡ local_in book x context 1 q → 2 * (r - least) + 1 < length row → at + 2 * (r - least) + 1 < length choices
          → Updated at (2 * (r - least)) j (add binary32 a tail) (add binary32 b tail) row row' choices choices' → Onward row' choices'
      unfolding local_at
      edge {tail = tail} low high e k f g room space u =
          by_level
          (λ none h l. edge-zero none (rw l at low) (rw l at high) (rw (f, k, l, same, e, h)) (rw (g, k, l, same, e, h)) (rw l at room) (rw l at space) (rw l at u))
          (λ one h l. edge-nonzero one (rw l at low) (rw l at high) (rw (f, k, l, same, e, h)) (rw (g, k, l, same, e, h)) (rw l at room) (rw l at space) (rw l at u))

  -- ---- all edges from count n
  pub tried-next : {n j : ℕ} → length levels ≡ j → Tried book x levels next s least most at n j row choices → Tried book x levels next s least most at (n + 1) 0 row choices
  tried-next {n} {j} e t =
      record {
        done = λ r p low high P h. go r p low high P h (eqb r n) refl;
        here = λ p low high P. rw all at (t.next_one p low high P);
        next_one = λ p low high P. t.above (n + 1 + 1) p low high P (omega arith);
        above = λ r p low high P h. t.above r p low high P (omega arith);
      }
    where
      all : take j levels ≡ levels
      all = ap (λ (k : ℕ). take k levels) (sym e) ∙ take-length levels

      go : (r p : ℕ) → least ≤ r → r ≤ most → p ≤ 1 → r < n + 1 → (b : Bool) → eqb r n ≡ b → StateIs book x levels next s least at row choices r p levels levels
      go r p low high P h true f = let same = eqb-true r n f in rw same (rw all at (t.here p (rw same at low) (rw same at high) P))
      go r p low high P h false f = t.done r p low high P (omega (arith, eqb-false r n f))

  -- ---- all edges
  module _ {n : ℕ} (t : Tried book x levels next s least most at n 0 row choices) (end : n ≤ most → s.upto < n) where
    module _ (r p : ℕ) (low : least ≤ r) (high : r ≤ most) (P : p ≤ 1) where
      -- past the span no level has an edge
      no_zero : n ≤ r → StateIs book x levels next s least at row choices r p levels [] → StateIs book x levels next s least at row choices r p levels levels
      no_zero h v =
          let past : s.upto < n = end (omega arith) in
          held-dead-zero (λ q m. w.locals r p q high P m) (zero-dead next s r levels (tail-late next s r 0 (omega arith))) v

      no_edge : n + 1 ≤ r → StateIs book x levels next s least at row choices r p [] [] → StateIs book x levels next s least at row choices r p levels levels
      no_edge h v =
          let past : s.upto < n = end (omega arith) in
          no_zero (omega arith) (held-dead-nonzeros (λ q m. w.locals r p q high P m) (nonzero-dead next s r (λ _. tail-late next s (r - 1) 1 (omega arith))) v)

      all-tried : StateIs book x levels next s least at row choices r p levels levels
      all-tried = go (ltb r n) refl (eqb r n) refl (eqb r (n + 1)) refl
        where
          go : (a : Bool) → ltb r n ≡ a → (b : Bool) → eqb r n ≡ b → (d : Bool) → eqb r (n + 1) ≡ d → StateIs book x levels next s least at row choices r p levels levels
          go true f b g d h = t.done r p low high P (ltb-true r n f)
          go false f true g d h = let same = eqb-true r n g in no_zero (ltb-false r n f) (rw same (t.here p (rw same at low) (rw same at high) P))
          go false f false g true h = let same = eqb-true r (n + 1) h in no_edge (omega arith) (rw same (t.next_one p (rw same at low) (rw same at high) P))
          go false f false g false h =
              let above : n + 1 < r = omega (arith, ltb-false r n f, eqb-false r n g, eqb-false r (n + 1) h) in
              no_edge (omega arith) (t.above r p low high P above)

    -- the state of the row's entry i
    module _ (i : ℕ) (h : i < 2 * (most + 1 - least)) (some : least ≤ most) where
      place_of : 2 * (least + i / 2 - least) + i % 2 ≡ i
      place_of = omega arith

      entry-state : Held (local_at book x (least + i / 2) (i % 2)) (nonzero_tail next s (least + i / 2)) (zero_tail levels next s (least + i / 2)) levels levels levels (get_or row i nan) (get_or choices (at + i) 0)
      entry-state =
          rw place_of at (all-tried (least + i / 2) (i % 2) (omega arith) (omega arith) (omega arith))

      entry-is : EntryIs book x levels next s least i (get_or row i nan) (get_or choices (at + i) 0)
      unfolding row_cost row_level state_cost state_level tried_cost tried_level
      entry-is = let v = entry-state in record { cost = v.cost; level = v.level; below = v.below; none = v.none }

    pub row_is : least ≤ most → RowIs book x levels next s least at (2 * (most + 1 - least)) row choices
    row_is some = record { entry = λ i h. entry-is i h some }

-- ---- the bytes outside the row stay
pub elsewhere-all : (at n : ℕ) (choices : List ℕ) → Elsewhere at n choices choices
elsewhere-all at n choices = record { size = refl; ahead = λ j h. refl; behind = λ j h. refl }

pub elsewhere-again : {at n : ℕ} {a b d : List ℕ} → Elsewhere at n a b → Elsewhere at n b d → Elsewhere at n a d
elsewhere-again v w = record { size = w.size ∙ v.size; ahead = λ j h. w.ahead j h ∙ v.ahead j h; behind = λ j h. w.behind j h ∙ v.behind j h }

pub updated-elsewhere : {at i j : ℕ} {u y : Float} {row row' : List Float} {choices choices' : List ℕ} (n : ℕ) → i + 2 ≤ n → Updated at i j u y row row' choices choices' → Elsewhere at n choices choices'
updated-elsewhere {at} {i} {choices = choices} {choices' = choices'} n h k = wider (rw k.marks (elsewhere-pair choices (at + i) _ _))
  where
    wider : Elsewhere (at + i) 2 choices choices' → Elsewhere at n choices choices'
    wider v = record { size = v.size; ahead = λ q l. v.ahead q (omega arith); behind = λ q l. v.behind q (omega arith) }

pub updated-size : {at i j : ℕ} {u y : Float} {row row' : List Float} {choices choices' : List ℕ} → Updated at i j u y row row' choices choices' → length row' ≡ length row
updated-size k = ap length k.costs ∙ simp length-set

-- ---- what holds in the loops
-- over the candidates: j of them
pub record Trying (book : Book) (x : Place) (levels : List ℤ) (next : List Float) (s : Span) (least most at n j : ℕ) (row row' : List Float) (choices choices' : List ℕ) : Type 0 where
  pub upto : j ≤ length levels
  pub size : length row' ≡ length row
  pub elsewhere : Elsewhere at (2 * (most + 1 - least)) choices choices'
  pub tried : Tried book x levels next s least most at n j row' choices'

-- over the counts of the next row: those below n
pub record Going (book : Book) (x : Place) (levels : List ℤ) (next : List Float) (s : Span) (least most at n : ℕ) (row row' : List Float) (choices choices' : List ℕ) : Type 0 where
  pub size : length row' ≡ length row
  pub elsewhere : Elsewhere at (2 * (most + 1 - least)) choices choices'
  pub tried : Tried book x levels next s least most at n 0 row' choices'

-- over the states to clear: i of n
pub record Clearing (at n i : ℕ) (row row' : List Float) (choices choices' : List ℕ) : Type 0 where
  pub upto : i ≤ n
  pub size : length row' ≡ length row
  pub elsewhere : Elsewhere at i choices choices'
  pub cleared : Cleared at i row' choices'

pub clearing-none : (at n : ℕ) (row : List Float) (choices : List ℕ) → Clearing at n 0 row row choices choices
clearing-none at n row choices =
    record {
      upto = zero-le;
      size = refl;
      elsewhere = elsewhere-all at 0 choices;
      cleared = record { costs = λ i h. absurd (omega arith); marks = λ i h. absurd (omega arith) };
    }

pub clearing-more : {at n i : ℕ} {row row' : List Float} {choices choices' : List ℕ} {none : Float} → i < n → n ≤ length row → at + n ≤ length choices → none ≡ inf false
    → Clearing at n i row row' choices choices' → Clearing at n (i + 1) row (set row' i none) choices (set choices' (at + i) 255)
clearing-more {at} {n} {i} {row} {row'} {choices} {choices'} {none} h room space e w =
    record {
      upto = omega arith;
      size = simp length-set w.size;
      elsewhere = record {
        size = simp length-set w.elsewhere.size;
        ahead = λ j l. get_or-set_other choices' (at + i) j 255 0 (λ z. absurd (omega arith)) ∙ w.elsewhere.ahead j l;
        behind = λ j l. get_or-set_other choices' (at + i) j 255 0 (λ z. absurd (omega arith)) ∙ w.elsewhere.behind j (omega arith);
      };
      cleared = record { costs = λ j l. costs j l (eqb j i) refl; marks = λ j l. marks j l (eqb j i) refl };
    }
  where
    costs : (j : ℕ) → j < i + 1 → (b : Bool) → eqb j i ≡ b → get_or (set row' i none) j nan ≡ inf false
    costs j l true f = let same = eqb-true j i f in rw same (get_or-set_same row' i none nan (omega (arith, w.size)) ∙ e)
    costs j l false f = let other = eqb-false j i f in get_or-set_other row' i j none nan other ∙ w.cleared.costs j (omega (arith, other))

    marks : (j : ℕ) → j < i + 1 → (b : Bool) → eqb j i ≡ b → get_or (set choices' (at + i) 255) (at + j) 0 ≡ 255
    marks j l true f = let same = eqb-true j i f in rw same (get_or-set_same choices' (at + i) 255 0 (omega (arith, w.elsewhere.size)))
    marks j l false f =
        let other = eqb-false j i f in
        get_or-set_other choices' (at + i) (at + j) 255 0 (λ z. other (omega arith)) ∙ w.cleared.marks j (omega (arith, other))

-- a count more: its two states
pub clearing-pair : {at n k : ℕ} {row row' row'' : List Float} {choices choices' choices'' : List ℕ} {a b : Float} {u v : ℕ} → k < n → 2 * n ≤ length row → at + 2 * n ≤ length choices
    → a ≡ inf false → b ≡ inf false → u ≡ 255 → v ≡ 255 → row'' ≡ set (set row' (2 * k) a) (2 * k + 1) b → choices'' ≡ set (set choices' (at + 2 * k) u) (at + 2 * k + 1) v
    → Clearing at (2 * n) (2 * k) row row' choices choices' → Clearing at (2 * n) (2 * (k + 1)) row row'' choices choices''
clearing-pair {at} {n} {k} {row} {row'} {row''} {choices} {choices'} {choices''} {a} {b} {u} {v} h room space e f g i r c w =
    let two : 2 * (k + 1) ≡ 2 * k + 1 + 1 = omega arith in
    let next : at + (2 * k + 1) ≡ at + 2 * k + 1 = omega arith in
    rw (two, r, c, g, i, ← next) (clearing-more {n = 2 * n} (omega arith) room space f (clearing-more {n = 2 * n} (omega arith) room space e w))
