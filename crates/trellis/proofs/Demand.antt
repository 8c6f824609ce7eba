-- The outcome of the trellis meets demand 3 of document 01. Assumes nothing.
use mathlib.Core.Path.{◌≡◌, refl, sym, ap, ◌∙◌, subst, subst⁻¹}
use mathlib.Core.Bool.{Bool, true, false, cond}
use mathlib.Core.List.{List}
use Prim.Native.Nat.{ℕ, ◌*◌, ◌≤◌}
use native.Mathlib.Nat.{le_trans, mul-le-mul_right}
use native.Mathlib.Omega.{arith}
use borrow.Author.Tests.{eqb-true, eq-eqb, le-leb}
use lib.Dec.{T, eqb}
use lib.IntN.{ℤ}
use lib.ListN.{length}
use lib.Ieee.{Float, le}
use lib.Ieee.Scale.{finite}
use Rattle.block.specs.Band.{positions_from, past_window, tail_of, problem_of}
use Rattle.block.specs.Block.{Block, with_levels, covered, input_remaining}
use Rattle.block.specs.Checks.{block_refusal, search_refusal, choice_bytes, states, enough_room, trellis_room, wide_room}
use Rattle.block.specs.Choice.{window_levels, IsChoice}
use Rattle.block.specs.Outcome.{Lent, Result, cleared, refused, RefusedKeeps}
use Rattle.block.specs.Answer.{Cost, Refused}
use Rattle.block_checks.specs.Passed.{Passed}
use Rattle.least_cost.specs.Choice.{Choice, remaining}
use Rattle.least_cost.specs.Search.{Banded, count_of, whole_cost, least_total, least_count, least_levels}
use Rattle.least_cost.proofs.Whole as Whole
use Rattle.prices.specs.Book.{Book}
use Rattle.prices.specs.Checks.{book_refusal}
use Rattle.problem.proofs.Main as Main
use Rattle.problem.proofs.Main.{input-in-band, found}
use Rattle.problem.proofs.Refusals.{NoOutcome, search-number, searched, still-searched}
use Rattle.problem.proofs.Wider.{never_dearer, still-answers}
use Rattle.problem.proofs.Written.{put-window, put-choice}
use Rattle.problem.specs.Tokens.{needs_infinite}
use Rattle.scan.specs.Scan.{put}
use Rattle.search_checks.proofs.Refusing.{room_of}
use Rattle.weights.specs.declared.Window.{Window}
use Rattle.trellis.specs.Demand.{RefusedExactly, LeastCost, LeastAnswered, IsCost, NeverDearer, AsWide, PromisedIn}
use Rattle.trellis.specs.Outcome.{answered, written, refusal, wide_refusal, searched_outcome, banded_outcome, wide_outcome}
use Rattle.trellis.proofs.Main.{refused-exactly}

is_true : (t : Bool) → T t → t ≡ true
is_true true _ = refl
is_true false x' = elim x' [ ]

-- the levels with those of a least choice written through the scan
abbrev least-levels : ℕ → Window → Book → Block → List ℤ
least-levels w v book b = put b.scan (least_levels (problem_of w v book b)) (covered b) v.length b.levels

module _ (w : ℕ) (v : Window) (book : Book) (b : Block) (ok : book_refusal book ≡ 0) (P : Passed v b) where
  -- the levels of the answer, written through the scan
  module _ (h : T (finite (least_total (problem_of w v book b)))) (A : Whole.Answer (problem_of w v book b)) where
    chosen : Choice (positions_from w v book b 0 v.length) (least_levels (problem_of w v book b))
    unfolding problem_of
    chosen = A.banded.choice

    read : window_levels v b (least-levels w v book b) ≡ least_levels (problem_of w v book b)
    read = put-window w v book b P (least_levels (problem_of w v book b)) chosen

    is-choice : IsChoice w v book b (least-levels w v book b)
    is-choice = put-choice w v book b P (least_levels (problem_of w v book b)) chosen

    counted : least_count (problem_of w v book b) ≡ input_remaining (with_levels b (least-levels w v book b)) (covered b)
    unfolding count_of problem_of tail_of
    counted = sym A.count ∙ ap (remaining (past_window v b)) (sym read) ∙ is-choice.count

    own : T (le (least_total (problem_of w v book b)) (whole_cost (problem_of w v book b) (window_levels v b b.levels)))
    unfolding window_levels
    own = A.least _ (input-in-band w v book ok b P)

    meets : LeastCost w v book b (least-levels w v book b) (least_total (problem_of w v book b)) (least_count (problem_of w v book b))
    meets =
        record {
          choice = is-choice;
          in_band = subst⁻¹ (Banded (problem_of w v book b)) read A.banded;
          cost_is = sym A.costs ∙ ap (whole_cost (problem_of w v book b)) (sym read);
          count_is = counted;
          is_finite = h;
          least = A.least;
          least_of_input = own;
          smallest = A.smallest;
          first_tried = read;
          near_exact = λ levels B finite-price.
              Main.near_exact w v book ok b P (window_levels v b (least-levels w v book b)) levels (subst⁻¹ (Banded (problem_of w v book b)) read A.banded) B
              (subst (λ (c : Float). T (le c (whole_cost (problem_of w v book b) levels))) (sym A.costs ∙ ap (whole_cost (problem_of w v book b)) (sym read)) (A.least levels B)) finite-price;
        }

  answered-least : LeastAnswered w v book b (written w v book b) (answered w v book b)
  unfolding answered written
  answered-least x n e = go (finite (least_total (problem_of w v book b))) refl e
    where
      go : (t : Bool) → finite (least_total (problem_of w v book b)) ≡ t → cond t (Cost (least_total (problem_of w v book b)) (least_count (problem_of w v book b))) (Refused 15) ≡ Cost x n
          → LeastCost w v book b (cond t (least-levels w v book b) b.levels) x n
      go true h k =
          let cost : least_total (problem_of w v book b) ≡ x = cc in
          let count : least_count (problem_of w v book b) ≡ n = cc in
          let f : T (finite (least_total (problem_of w v book b))) = rw h tt in
          subst (λ (c : Float). LeastCost w v book b (least-levels w v book b) c n) cost
          (subst (LeastCost w v book b (least-levels w v book b) (least_total (problem_of w v book b))) count (meets f (found w v book ok b P f)))
      go false h k =
          let bad : ◌≡◌ {A = ℕ} 0 1 = cc in
          absurd (omega arith)

-- ---- the same of the whole outcome
-- a window that the checks let pass is one within the block
module _ (w : ℕ) (v : Window) (book : Book) (b : Block) (within : block_refusal w v b 0 ≡ 0 → Passed v b) (l : Lent) where
  passed-all : refusal w v book b l ≡ 0 → (book_refusal book ≡ 0) × Passed v b
  unfolding refusal
  passed-all e =
      let s = searched w v book b _ e in
      (s.0, within s.1.0)

  refusal-number : NoOutcome (refusal w v book b l)
  unfolding refusal
  refusal-number = search-number w v book b _

  pub refused-15 : RefusedExactly w v book b l (banded_outcome w v book b l).answer
  unfolding banded_outcome searched_outcome
  refused-15 = (λ e. only (eqb (refusal w v book b l) 0) refl e, λ h. rw (eq-eqb (refusal w v book b l) 0 h.0) ((refused-exactly w v book (passed-all h.0).0 b (passed-all h.0).1).1 h.1))
    where
      only : (t : Bool) → eqb (refusal w v book b l) 0 ≡ t
          → (cond t (record { answer = answered w v book b; lent = cleared (record { levels = written w v book b; choices = l.choices; row_a = l.row_a; row_b = l.row_b }) }) (refused (refusal w v book b l) l)).answer ≡ Refused 15
          → (refusal w v book b l ≡ 0) × ((levels : List ℤ) → Banded (problem_of w v book b) levels → T (needs_infinite v book b levels))
      only true h e =
          let z = eqb-true (refusal w v book b l) 0 h in
          (z, (refused-exactly w v book (passed-all z).0 b (passed-all z).1).0 e)
      only false h e =
          let bad : refusal w v book b l ≡ 15 = cc in
          absurd (refusal-number.not-15 bad)

  pub least-answered : LeastAnswered w v book b (banded_outcome w v book b l).lent.levels (banded_outcome w v book b l).answer
  unfolding banded_outcome searched_outcome cleared
  least-answered x n e = go (eqb (refusal w v book b l) 0) refl e
    where
      go : (t : Bool) → eqb (refusal w v book b l) 0 ≡ t
          → (cond t (record { answer = answered w v book b; lent = cleared (record { levels = written w v book b; choices = l.choices; row_a = l.row_a; row_b = l.row_b }) }) (refused (refusal w v book b l) l)).answer ≡ Cost x n
          → LeastCost w v book b (cond t (record { answer = answered w v book b; lent = cleared (record { levels = written w v book b; choices = l.choices; row_a = l.row_a; row_b = l.row_b }) }) (refused (refusal w v book b l) l)).lent.levels x n
      go true h k =
          let z = eqb-true (refusal w v book b l) 0 h in
          answered-least w v book b (passed-all z).0 (passed-all z).1 x n k
      go false h k =
          let bad : ◌≡◌ {A = ℕ} 0 1 = cc in
          absurd (omega arith)

  pub refused-keeps : l.levels ≡ b.levels → RefusedKeeps b (banded_outcome w v book b l).lent.levels (banded_outcome w v book b l).answer
  unfolding banded_outcome searched_outcome cleared written answered
  refused-keeps own n e = go (eqb (refusal w v book b l) 0) (finite (least_total (problem_of w v book b))) e
    where
      go : (t f : Bool)
          → (cond t (record { answer = cond f (Cost (least_total (problem_of w v book b)) (least_count (problem_of w v book b))) (Refused 15); lent = cleared (record { levels = cond f (least-levels w v book b) b.levels; choices = l.choices; row_a = l.row_a; row_b = l.row_b }) }) (refused (refusal w v book b l) l)).answer ≡ Refused n
          → (cond t (record { answer = cond f (Cost (least_total (problem_of w v book b)) (least_count (problem_of w v book b))) (Refused 15); lent = cleared (record { levels = cond f (least-levels w v book b) b.levels; choices = l.choices; row_a = l.row_a; row_b = l.row_b }) }) (refused (refusal w v book b l) l)).lent.levels ≡ b.levels
      go true true k =
          let bad : ◌≡◌ {A = ℕ} 0 1 = cc in
          absurd (omega arith)
      go true false k = refl
      go false f k = own

  -- ---- the width of the band
  -- an answered cost was let pass, and is the least
  cost-least : (x : Float) (n : ℕ) → (banded_outcome w v book b l).answer ≡ Cost x n → (refusal w v book b l ≡ 0) × (x ≡ least_total (problem_of w v book b)) × T (finite (least_total (problem_of w v book b)))
  unfolding banded_outcome searched_outcome answered
  cost-least x n e = go (eqb (refusal w v book b l) 0) (finite (least_total (problem_of w v book b))) refl refl e
    where
      go : (t f : Bool) → eqb (refusal w v book b l) 0 ≡ t → finite (least_total (problem_of w v book b)) ≡ f
          → (cond t (record { answer = cond f (Cost (least_total (problem_of w v book b)) (least_count (problem_of w v book b))) (Refused 15); lent = cleared (record { levels = written w v book b; choices = l.choices; row_a = l.row_a; row_b = l.row_b }) }) (refused (refusal w v book b l) l)).answer ≡ Cost x n
          → (refusal w v book b l ≡ 0) × (x ≡ least_total (problem_of w v book b)) × T (finite (least_total (problem_of w v book b)))
      go true true h g k =
          let cost : x ≡ least_total (problem_of w v book b) = cc in
          (eqb-true (refusal w v book b l) 0 h, cost, rw g tt)
      go true false h g k =
          let bad : ◌≡◌ {A = ℕ} 0 1 = cc in
          absurd (omega arith)
      go false f h g k =
          let bad : ◌≡◌ {A = ℕ} 0 1 = cc in
          absurd (omega arith)

  -- a finite least that is let pass is answered
  least-is-cost : refusal w v book b l ≡ 0 → T (finite (least_total (problem_of w v book b))) → IsCost (banded_outcome w v book b l).answer
  unfolding banded_outcome searched_outcome answered
  least-is-cost e f = record { cost = least_total (problem_of w v book b); count = least_count (problem_of w v book b); is = rw (eq-eqb (refusal w v book b l) 0 e, is_true (finite (least_total (problem_of w v book b))) f) }

-- The narrower band's block passed, so the wider's does where it has room; and a wider band holds every choice of the narrower.
module _ (w : ℕ) (v : Window) (book : Book) (b : Block) (within : (n : ℕ) → block_refusal n v b 0 ≡ 0 → Passed v b) (l : Lent) where
  pub wider : NeverDearer w v book b l (banded_outcome w v book b l).answer
  unfolding refusal
  wider n k cost count narrow e =
      let found = cost-least n v book b (within n) k cost count e in
      let all = passed-all n v book b (within n) k found.0 in (
        λ c m f.
            let own = cost-least w v book b (within w) l c m f in
            subst⁻¹ (λ (x : Float). T (le x cost)) own.1 (subst⁻¹ (λ (x : Float). T (le (least_total (problem_of w v book b)) x)) found.1 (never_dearer v book b n w narrow all.0 all.1 found.2)),
        λ ok room.
            least-is-cost w v book b (within w) l
            (subst⁻¹ (λ (t : Bool). search_refusal w v book b t ≡ 0) room (still-searched w n v book b _ ok found.0))
            (still-answers v book b n w narrow all.0 all.1 found.2),
      )

-- ---- half bytes: where the wide room suffices, the packed one does
both-rooms : (w window choices row_a row_b : ℕ) → wide_room w window choices row_a row_b ≡ true → trellis_room w window choices row_a row_b ≡ true
unfolding enough_room
both-rooms w window choices row_a row_b e =
    let r = room_of (states w) (states w) window choices row_a row_b e in
    let less : choice_bytes w * window ≤ states w * window = mul-le-mul_right window (omega arith) in
    rw (le-leb (choice_bytes w * window) choices (le_trans less r.1.1), le-leb (states w) row_a r.0, le-leb (states w) row_b r.1.0)

pub as_wide : (w : ℕ) (v : Window) (book : Book) (b : Block) (l : Lent) → AsWide w v book b l (banded_outcome w v book b l)
unfolding banded_outcome wide_outcome refusal wide_refusal
as_wide w v book b l e =
    ap (λ (room : Bool). cond (eqb (search_refusal w v book b room) 0) (searched_outcome w v book b l) (refused (search_refusal w v book b room) l))
    (both-rooms w v.length (length l.choices) (length l.row_a) (length l.row_b) e ∙ sym e)

-- ---- whatever equals the outcome meets the whole contract
pub promised : (w : ℕ) (v : Window) (book : Book) (b : Block) → ((n : ℕ) → block_refusal n v b 0 ≡ 0 → Passed v b) → (l : Lent) → l.levels ≡ b.levels → {after : Result} → after ≡ banded_outcome w v book b l
    → PromisedIn w v book b l after
promised w v book b within l own e =
    record {
      outcome = e;
      exact = subst⁻¹ (λ (r : Result). RefusedExactly w v book b l r.answer) e (refused-15 w v book b (within w) l);
      least = subst⁻¹ (λ (r : Result). LeastAnswered w v book b r.lent.levels r.answer) e (least-answered w v book b (within w) l);
      never_dearer = subst⁻¹ (λ (r : Result). NeverDearer w v book b l r.answer) e (wider w v book b within l);
      as_wide = λ room. e ∙ as_wide w v book b l room;
      keeps = subst⁻¹ (λ (r : Result). RefusedKeeps b r.lent.levels r.answer) e (refused-keeps w v book b (within w) l own);
    }
