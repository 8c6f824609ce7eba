-- A row written pair by pair. Assumes nothing.
use mathlib.Core.Path.{◌≡◌, refl, sym, ap, ◌∙◌, subst⁻¹}
use mathlib.Core.Bool.{Bool, true, false, cond, not, ◌&&◌}
use mathlib.Core.List.Memᴰ.{head as here}
use mathlib.Core.List.Memᴰ.{tail as there}
use mathlib.Core.List.{List, [], ◌∷◌, Memᴰ as Mem}
use Prim.Native.Nat.{ℕ, ◌+◌, ◌-◌, ◌*◌, ◌/◌, ◌%◌, ◌≤◌, ◌<◌}
use native.Mathlib.Omega.{arith}
use native.Mathlib.Nat.{le_refl}
use lib.IntN.{ℤ, pos}
use lib.Dec.{T, eqb, leb, lit≤}
use lib.ListN.{length, get_or, set, length-set}
use lib.Seq.{get_or-set_same, get_or-set_other}
use lib.Ieee.{Float, nan, inf, lt, binary32}
use lib.Ieee.Scale.{finite}
use borrow.Author.Tests.{eqb-true, eqb-false, ne_eqb, leb-true}
use Rattle.ac_context.specs.Contexts.{CountsAlike}
use Rattle.costs.specs.Cost.{cost}
use Rattle.costs.proofs.Order.{infinite, lt-inf}
use Rattle.costs.proofs.Sum.{add-inf}
use Rattle.half_bytes.specs.Packed.{kept}
use Rattle.half_bytes.proofs.Laws.{kept-few, kept-none}
use Rattle.least_cost.specs.Search.{least, nonzeros, has_zero}
use Rattle.least_cost.proofs.Trial.{nonzeros-listed}
use Rattle.prices.specs.Book.{Book}
use Rattle.steps.specs.Place.{context_at, local_in, local_at}
use Rattle.steps.specs.declared.Place.{Place}
use Rattle.trellis_choice.specs.Locals.{Located}
use Rattle.trellis_choice.specs.Chosen.{with, state_cost, nonzero_cost, zero_cost, ZeroAt, Settled}
use Rattle.trellis_row.specs.Row.{tail_at, nonzero_tail, zero_tail, row_cost, row_level, EntryIs, RowIs, Elsewhere, Coding, Workable}
use Rattle.trellis_choice.proofs.Choosing.{zero-listed}
use Rattle.steps.specs.declared.best.Best.{Best}
use Rattle.trellis_choice.specs.declared.locals.Locals.{Locals}
use Rattle.trellis_row.specs.declared.row.Span.{Span}

-- ---- two entries more, of a list and of another from `at` on
both-kept : {A : Type 0} (xs : List A) (i j : ℕ) (a b d : A) → j < i → get_or (set (set xs i a) (i + 1) b) j d ≡ get_or xs j d
both-kept xs i j a b d h =
    get_or-set_other (set xs i a) (i + 1) j b d (λ e. absurd (omega arith)) ∙ get_or-set_other xs i j a d (λ e. absurd (omega arith))

first-set : {A : Type 0} (xs : List A) (i : ℕ) (a b d : A) → i < length xs → get_or (set (set xs i a) (i + 1) b) i d ≡ a
first-set xs i a b d h = get_or-set_other (set xs i a) (i + 1) i b d (λ e. absurd (omega arith)) ∙ get_or-set_same xs i a d h

second-set : {A : Type 0} (xs : List A) (i : ℕ) (a b d : A) → i + 1 < length xs → get_or (set (set xs i a) (i + 1) b) (i + 1) d ≡ b
second-set xs i a b d h = get_or-set_same (set xs i a) (i + 1) b d (simp length-set h)

module _ (P : ℕ → Float → ℕ → Type 0) (row : List Float) (choices : List ℕ) (at i : ℕ) (a b : Float) (m n : ℕ) (room : i + 1 < length row) (space : at + i + 1 < length choices)
    (before : (j : ℕ) → j < i → P j (get_or row j nan) (get_or choices (at + j) 0)) (here : P i a m) (next : P (i + 1) b n) where
  two-more : (j : ℕ) → j < i + 2 → P j (get_or (set (set row i a) (i + 1) b) j nan) (get_or (set (set choices (at + i) m) (at + i + 1) n) (at + j) 0)
  two-more j h = go (eqb j i) refl (eqb j (i + 1)) refl
    where
      past : at + (i + 1) ≡ at + i + 1
      past = omega arith

      go : (p : Bool) → eqb j i ≡ p → (q : Bool) → eqb j (i + 1) ≡ q → P j (get_or (set (set row i a) (i + 1) b) j nan) (get_or (set (set choices (at + i) m) (at + i + 1) n) (at + j) 0)
      go true e q f =
          subst⁻¹ (λ (k : ℕ). P k (get_or (set (set row i a) (i + 1) b) k nan) (get_or (set (set choices (at + i) m) (at + i + 1) n) (at + k) 0)) (eqb-true j i e)
          (rw (first-set row i a b nan (omega arith), first-set choices (at + i) m n 0 (omega arith)) here)
      go false e true f =
          subst⁻¹ (λ (k : ℕ). P k (get_or (set (set row i a) (i + 1) b) k nan) (get_or (set (set choices (at + i) m) (at + i + 1) n) (at + k) 0)) (eqb-true j (i + 1) f)
          (rw (second-set row i a b nan room, past, second-set choices (at + i) m n 0 space) next)
      go false e false f =
          let near : j < i = omega (arith, eqb-false j i e, eqb-false j (i + 1) f) in
          rw (both-kept row i j a b nan near, both-kept choices (at + i) (at + j) m n 0 (omega arith)) (before j near)

-- ---- outside those two, the choices stay
pub elsewhere-pair : (choices : List ℕ) (from m n : ℕ) → Elsewhere from 2 choices (set (set choices from m) (from + 1) n)
elsewhere-pair choices from m n =
    record {
      size = simp length-set;
      ahead = λ j h. both-kept choices from j m n 0 h;
      behind = λ j h.
          get_or-set_other (set choices from m) (from + 1) j n 0 (λ e. absurd (omega arith)) ∙ get_or-set_other choices from j m 0 (λ e. absurd (omega arith));
    }

pub elsewhere-none : (from : ℕ) (choices : List ℕ) → Elsewhere from 0 choices choices
elsewhere-none from choices = record { size = refl; ahead = λ j h. refl; behind = λ j h. refl }

pub elsewhere-more : {from n k : ℕ} {a b c : List ℕ} → Elsewhere from n a b → Elsewhere (from + n) k b c → Elsewhere from (n + k) a c
elsewhere-more v w =
    record {
      size = w.size ∙ v.size;
      ahead = λ j h. w.ahead j (omega arith) ∙ v.ahead j h;
      behind = λ j h. w.behind j (omega arith) ∙ v.behind j (omega arith);
    }

-- ---- where nothing finite follows, nothing is finite
pub dead-least : (g : ℤ → Float) (qs : List ℤ) → ((q : ℤ) → Mem q qs → T (cost (g q))) → least (with g (inf false)) (inf false) qs ≡ inf false
unfolding least lt
dead-least g [] G = refl
dead-least g (q ∷ qs) G =
    ap (λ (z : Float). least (with g (inf false)) (cond (lt z (inf false)) z (inf false)) qs) (add-inf binary32 (g q) (G q (here refl)))
    ∙ dead-least g qs (λ c m. G c (there m))

dead-state : (g : ℤ → Float) (levels : List ℤ) → ((q : ℤ) → Mem q levels → T (cost (g q))) → state_cost g (inf false) (inf false) levels ≡ inf false
unfolding state_cost nonzero_cost zero_cost cost lt
dead-state g levels G = rw (dead-least g (nonzeros levels) (λ c m. G c (nonzeros-listed levels c m))) (go (has_zero levels) refl)
  where
    go : (b : Bool) → has_zero levels ≡ b → cond (lt (cond b (with g (inf false) (pos 0)) (inf false)) (inf false)) (cond b (with g (inf false) (pos 0)) (inf false)) (inf false) ≡ inf false
    go true h = rw (add-inf binary32 (g (pos 0)) (G (pos 0) (zero-listed levels h)))
    go false h = refl

-- ---- the entries of a count
module _ (book : Book) (x : Place) (levels : List ℤ) (next : List Float) (s : Span) (least r : ℕ) where
  -- a state that is settled is an entry
  pub entry-settled : (i p : ℕ) (v : Float) (choice : ℕ) → least + i / 2 ≡ r → i % 2 ≡ p
      → Settled (local_at book x r p) (nonzero_tail next s r) (zero_tail levels next s r) levels (record { cost = v; choice = choice }) → EntryIs book x levels next s least i v choice
  unfolding row_cost row_level
  entry-settled i p v choice e f w = record { cost = rw (e, f) w.cost; level = λ t. rw (e, f) (w.level t); below = w.below; none = w.none }

  -- where nothing finite follows, the entry is infinite
  pub entry-dead : (i p : ℕ) → least + i / 2 ≡ r → i % 2 ≡ p → ((q : ℤ) → Mem q levels → T (cost (local_at book x r p q)))
      → nonzero_tail next s r ≡ inf false → zero_tail levels next s r ≡ inf false → EntryIs book x levels next s least i (inf false) 255
  unfolding row_cost finite
  entry-dead i p e f G a b =
      record { cost = rw (e, f, a, b) (sym (dead-state (local_at book x r p) levels G)); level = λ t. absurd t; below = λ t. absurd t; none = λ t. refl }

  -- the pair of a count, behind the entries of the counts before it
  pub row_more : (at i : ℕ) (row : List Float) (choices : List ℕ) (a b : Float) (m n : ℕ) → i + 1 < length row → at + i + 1 < length choices
      → RowIs book x levels next s least at i row choices → EntryIs book x levels next s least i a m → EntryIs book x levels next s least (i + 1) b n
      → RowIs book x levels next s least at (i + 2) (set (set row i a) (i + 1) b) (set (set choices (at + i) m) (at + i + 1) n)
  row_more at i row choices a b m n room space w e f =
      record { entry = two-more (EntryIs book x levels next s least) row choices at i a b m n room space w.entry e f }

-- ---- what follows is a cost
module _ {book : Book} {x : Place} {levels : List ℤ} {next : List Float} {s : Span} {most : ℕ} (w : Workable book x levels next s most) where
  tail-cost : (r p : ℕ) → p ≤ 1 → T (cost (tail_at next s r p))
  unfolding tail_at cost
  tail-cost r p h = go (leb s.from r) refl (leb r s.upto) refl
    where
      go : (a : Bool) → leb s.from r ≡ a → (b : Bool) → leb r s.upto ≡ b → T (cost (cond (a && b) (get_or next (2 * (r - s.base) + p) nan) (inf false)))
      go true e true f = w.tails r p (leb-true _ _ e) (leb-true _ _ f) h
      go true e false f = tt
      go false e b f = tt

  pub nonzero-tail-cost : (r : ℕ) → T (cost (nonzero_tail next s r))
  unfolding nonzero_tail cost
  nonzero-tail-cost r = go (leb 1 r)
    where
      go : (b : Bool) → T (cost (cond b (tail_at next s (r - 1) 1) (inf false)))
      go true = tail-cost (r - 1) 1 (lit≤ tt)
      go false = tt

  pub zero-tail-cost : (levels : List ℤ) (r : ℕ) → T (cost (zero_tail levels next s r))
  unfolding zero_tail cost
  zero-tail-cost levels r = go (has_zero levels)
    where
      go : (b : Bool) → T (cost (cond b (tail_at next s r 0) (inf false)))
      go true = tail-cost r 0 (lit≤ tt)
      go false = tt

-- what follows 0, by the index of 0
pub zero-tail-is : (levels : List ℤ) (next : List Float) (s : Span) (r index : ℕ) (t : Float) → ZeroAt levels index → length levels ≤ 5 → (has_zero levels ≡ false → index ≡ 255)
    → (index ≡ 255 → t ≡ inf false) → ((index ≡ 255 → ⊥) → t ≡ tail_at next s r 0) → t ≡ zero_tail levels next s r
unfolding zero_tail
zero-tail-is levels next s r index t at few none gone reads = go (has_zero levels) refl
  where
    go : (b : Bool) → has_zero levels ≡ b → t ≡ cond b (tail_at next s r 0) (inf false)
    go true h = reads (λ e. absurd (omega (arith, at.below h)))
    go false h = gone (none h)

-- a tail that is not below +infinity is +infinity
pub not-below : (t : Float) → T (cost t) → lt t (inf false) ≡ false → t ≡ inf false
not-below t C e = infinite t C (subst⁻¹ (λ (b : Bool). T (not b)) (sym (lt-inf t C) ∙ e) tt)

-- ---- a count's pair, written behind the pairs of the counts before it
module _ (book : Book) (x : Place) (levels : List ℤ) (next : List Float) (s : Span) (least r at : ℕ) (row row' : List Float) (choices choices' : List ℕ) (a b : Float) (m n : ℕ)
    (from : least ≤ r) (room : 2 * (r - least) + 1 < length row) (space : at + 2 * (r - least) + 1 < length choices)
    (e : row' ≡ set (set row (2 * (r - least)) a) (2 * (r - least) + 1) b) (f : choices' ≡ set (set choices (at + 2 * (r - least)) m) (at + 2 * (r - least) + 1) n) where
  first_count : least + 2 * (r - least) / 2 ≡ r
  first_count = omega arith

  first-prev : 2 * (r - least) % 2 ≡ 0
  first-prev = omega arith

  second-count : least + (2 * (r - least) + 1) / 2 ≡ r
  second-count = omega arith

  second-prev : (2 * (r - least) + 1) % 2 ≡ 1
  second-prev = omega arith

  abbrev Written : Type 0
  Written = RowIs book x levels next s least at (2 * (r - least)) row choices → RowIs book x levels next s least at (2 * (r - least) + 2) row' choices'

  written : EntryIs book x levels next s least (2 * (r - least)) a m → EntryIs book x levels next s least (2 * (r - least) + 1) b n → Written
  written p q = λ w. rw (e, f) (row_more book x levels next s least r at (2 * (r - least)) row choices a b m n room space w p q)

  pub written-settled : Settled (local_at book x r 0) (nonzero_tail next s r) (zero_tail levels next s r) levels (record { cost = a; choice = m })
      → Settled (local_at book x r 1) (nonzero_tail next s r) (zero_tail levels next s r) levels (record { cost = b; choice = n }) → Written
  written-settled p q =
      written (entry-settled book x levels next s least r (2 * (r - least)) 0 a m first_count first-prev p)
      (entry-settled book x levels next s least r (2 * (r - least) + 1) 1 b n second-count second-prev q)

  pub written-dead : ((p : ℕ) (q : ℤ) → p ≤ 1 → Mem q levels → T (cost (local_at book x r p q))) → nonzero_tail next s r ≡ inf false → zero_tail levels next s r ≡ inf false
      → a ≡ inf false → b ≡ inf false → m ≡ 255 → n ≡ 255 → Written
  written-dead G u v p q i j =
      written (rw (p, i) (entry-dead book x levels next s least r (2 * (r - least)) 0 first_count first-prev (λ z. G 0 z (lit≤ tt)) u v))
      (rw (q, j) (entry-dead book x levels next s least r (2 * (r - least) + 1) 1 second-count second-prev (λ z. G 1 z (lit≤ tt)) u v))

-- a choice that is packed is the one that was settled
pub settled-kept : {g : ℤ → Float} {x z : Float} {levels : List ℤ} {r : Best ℕ} → length levels ≤ 5 → Settled g x z levels r → Settled g x z levels (record { cost = r.cost; choice = kept r.choice })
settled-kept {g} {x} {z} {levels} {r} few w = subst⁻¹ (λ (c : ℕ). Settled g x z levels (record { cost = r.cost; choice = c })) (go (finite r.cost) refl) w
  where
    go : (t : Bool) → finite r.cost ≡ t → kept r.choice ≡ r.choice
    go true e = kept-few r.choice (omega (arith, w.below (rw e tt), few))
    go false e = kept-none r.choice (w.none (rw e tt))

-- the local costs in a context are those of each count that has it
pub located-at : (book : Book) (x : Place) (levels : List ℤ) (first second : List Float) (l : Locals) (n context : ℕ) → context_at x n ≡ context
    → Located (local_in book x context 0) (local_in book x context 1) levels first second l → Located (local_at book x n 0) (local_at book x n 1) levels first second l
unfolding local_at
located-at book x levels first second l n context e w = subst⁻¹ (λ (k : ℕ). Located (local_in book x k 0) (local_in book x k 1) levels first second l) e w

-- ---- a run of counts
-- counts with the same table entry have the same context; where nothing remains there is no token
pub alike-context : (x : Place) {from last : ℕ} → CountsAlike x.covered from last → (from ≡ 0 → ⊥) → (n : ℕ) → from ≤ n → n ≤ last → context_at x n ≡ context_at x from
unfolding context_at
alike-context x {from} w some n low high =
    rw (ne_eqb n 0 (λ e. some (omega arith)), ne_eqb from 0 some) (ap (λ (z : ℕ). x.offset + z) (w.same n x.k 0 low high))

-- the counts from `from` up to r, r not included, are done; R is what a count's states are worked out from
pub record Ran (R : ℕ → Type 0) (book : Book) (x : Place) (levels : List ℤ) (next : List Float) (s : Span) (at least from upto r : ℕ) (row row' : List Float) (choices choices' : List ℕ) : Type 0 where
  pub start : from ≤ r
  pub end : r ≤ upto + 1
  pub size : length row' ≡ length row
  pub elsewhere : Elsewhere (at + 2 * (from - least)) (2 * (r - from)) choices choices'
  pub more : ((n : ℕ) → from ≤ n → n ≤ upto → R n)
      → RowIs book x levels next s least at (2 * (from - least)) row choices → RowIs book x levels next s least at (2 * (r - least)) row' choices'

pub ran-none : (R : ℕ → Type 0) (book : Book) (x : Place) (levels : List ℤ) (next : List Float) (s : Span) (at least from upto : ℕ) (row : List Float) (choices : List ℕ) → from ≤ upto
    → Ran R book x levels next s at least from upto from row row choices choices
ran-none R book x levels next s at least from upto row choices h =
    let nothing : 2 * (from - from) ≡ 0 = omega arith in
    record {
      start = le_refl from;
      end = omega arith;
      size = refl;
      elsewhere = rw nothing (elsewhere-none (at + 2 * (from - least)) choices);
      more = λ G w. w;
    }

pub ran-more : {R : ℕ → Type 0} {book : Book} {x : Place} {levels : List ℤ} {next : List Float} {s : Span} {at least from upto r : ℕ} {row row' row'' : List Float} {choices choices' choices'' : List ℕ}
    → least ≤ from → r ≤ upto → Ran R book x levels next s at least from upto r row row' choices choices' → length row'' ≡ length row' → Elsewhere (at + 2 * (r - least)) 2 choices' choices''
    → (R r → RowIs book x levels next s least at (2 * (r - least)) row' choices' → RowIs book x levels next s least at (2 * (r - least) + 2) row'' choices'')
    → Ran R book x levels next s at least from upto (r + 1) row row'' choices choices''
ran-more {R} {book} {x} {levels} {next} {s} {at} {least} {from} {upto} {r} low h w size elsewhere more =
    let step : 2 * (r + 1 - least) ≡ 2 * (r - least) + 2 = omega (arith, w.start) in
    let wide : 2 * (r + 1 - from) ≡ 2 * (r - from) + 2 = omega (arith, w.start) in
    let place : at + 2 * (r - least) ≡ at + 2 * (from - least) + 2 * (r - from) = omega (arith, w.start) in
    record {
      start = omega (arith, w.start);
      end = omega arith;
      size = size ∙ w.size;
      elsewhere = rw wide (elsewhere-more w.elsewhere (rw place at elsewhere));
      more = λ G v. rw step (more (G r w.start h) (w.more G v));
    }

-- ---- the whole row
pub workable-less : {book : Book} {x : Place} {levels : List ℤ} {next : List Float} {s : Span} {most r : ℕ} → r ≤ most → Workable book x levels next s most → Workable book x levels next s r
workable-less h w =
    record {
      priced = w.priced;
      pickable = w.pickable;
      covers = w.covers;
      coded = w.coded;
      left = omega (arith, w.left);
      offset = w.offset;
      locals = λ r' p q k. w.locals r' p q (omega arith);
      starts = w.starts;
      room = w.room;
      tails = w.tails;
    }

pub row-none : (book : Book) (x : Place) (levels : List ℤ) (next : List Float) (s : Span) (least at : ℕ) (row : List Float) (choices : List ℕ) → RowIs book x levels next s least at 0 row choices
row-none book x levels next s least at row choices = record { entry = λ i h. absurd (omega arith) }

pub coding-of : {book : Book} {x : Place} {levels : List ℤ} {next : List Float} {s : Span} {most : ℕ} → Workable book x levels next s most → Coding x most
coding-of w = record { covers = w.covers; coded = w.coded; left = w.left; offset = w.offset }

-- the counts from `least` up to r, r not included, are done
pub record SoFar (book : Book) (x : Place) (levels : List ℤ) (next : List Float) (s : Span) (at least most r : ℕ) (row row' : List Float) (choices choices' : List ℕ) : Type 0 where
  pub from : least ≤ r
  pub upto : r ≤ most + 1
  pub size : length row' ≡ length row
  pub elsewhere : Elsewhere at (2 * (r - least)) choices choices'
  pub done : RowIs book x levels next s least at (2 * (r - least)) row' choices'

pub so-far-none : (book : Book) (x : Place) (levels : List ℤ) (next : List Float) (s : Span) (at least most : ℕ) (row : List Float) (choices : List ℕ) → least ≤ most
    → SoFar book x levels next s at least most least row row choices choices
so-far-none book x levels next s at least most row choices h =
    let nothing : 2 * (least - least) ≡ 0 = omega arith in
    record {
      from = le_refl least;
      upto = omega arith;
      size = refl;
      elsewhere = rw nothing (elsewhere-none at choices);
      done = rw nothing (row-none book x levels next s least at row choices);
    }

-- a run more, up to e
pub so_far_more : {book : Book} {x : Place} {levels : List ℤ} {next : List Float} {s : Span} {at least most r e : ℕ} {row row' row'' : List Float} {choices choices' choices'' : List ℕ}
    → r ≤ e → e ≤ most → SoFar book x levels next s at least most r row row' choices choices' → length row'' ≡ length row' → Elsewhere (at + 2 * (r - least)) (2 * (e + 1 - r)) choices' choices''
    → (RowIs book x levels next s least at (2 * (r - least)) row' choices' → RowIs book x levels next s least at (2 * (e + 1 - least)) row'' choices'')
    → SoFar book x levels next s at least most (e + 1) row row'' choices choices''
so_far_more {at = at} {least} {most} {r} {e} h k w size elsewhere more =
    let step : 2 * (e + 1 - least) ≡ 2 * (r - least) + 2 * (e + 1 - r) = omega (arith, w.from) in
    record {
      from = omega (arith, w.from);
      upto = omega arith;
      size = size ∙ w.size;
      elsewhere = rw step (elsewhere-more w.elsewhere elsewhere);
      done = more w.done;
    }

-- a count more, its pair written
pub so-far-pair : {book : Book} {x : Place} {levels : List ℤ} {next : List Float} {s : Span} {at least most r : ℕ} {row row' row'' : List Float} {choices choices' choices'' : List ℕ}
    → r ≤ most → SoFar book x levels next s at least most r row row' choices choices' → length row'' ≡ length row' → Elsewhere (at + 2 * (r - least)) 2 choices' choices''
    → (RowIs book x levels next s least at (2 * (r - least)) row' choices' → RowIs book x levels next s least at (2 * (r - least) + 2) row'' choices'')
    → SoFar book x levels next s at least most (r + 1) row row'' choices choices''
so-far-pair {least = least} {r = r} h w size elsewhere more =
    let one : 2 * (r + 1 - r) ≡ 2 = omega arith in
    let step : 2 * (r + 1 - least) ≡ 2 * (r - least) + 2 = omega (arith, w.from) in
    so_far_more (le_refl r) h w size (rw one elsewhere) (λ v. rw step (more v))

-- there is room for the next pair
pub so-far-room : {book : Book} {x : Place} {levels : List ℤ} {next : List Float} {s : Span} {at least most r : ℕ} {row row' : List Float} {choices choices' : List ℕ}
    → r ≤ most → SoFar book x levels next s at least most r row row' choices choices' → (2 * (most - least) + 1 < length row) × (at + 2 * (most - least) + 1 < length choices)
    → (2 * (r - least) + 1 < length row') × (at + 2 * (r - least) + 1 < length choices')
so-far-room h w room = (omega (arith, room.0, w.size, w.from), omega (arith, room.1, w.elsewhere.size, w.from))
