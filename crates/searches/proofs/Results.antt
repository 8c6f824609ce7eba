-- The outcome of the call over all searches is each search's own, and meets what that promises. Assumes nothing.
use mathlib.Core.Path.{◌≡◌, refl, sym, ap, ◌∙◌, subst, subst⁻¹}
use mathlib.Core.Bool.{Bool, true, false, cond}
use mathlib.Core.List.{List}
use Prim.Native.Nat.{ℕ, ◌*◌, ◌≤◌, ◌<◌, zero-le}
use native.Mathlib.Nat.{zero-mul}
use borrow.Author.Tests.{eq-eqb, ne_eqb, le-leb}
use lib.Dec.{eqb, leb, lit≤}
use lib.IntN.{ℤ}
use lib.ListN.{length, replicate}
use lib.Ieee.{Float, inf}
use Rattle.beam.specs.Beam as Beam
use Rattle.beam.proofs.Demand as BeamDemand
use Rattle.block.specs.Block.{Block, covered}
use Rattle.block.specs.Checks.{search_refusal, block_refusal, enough_room, valid_width}
use Rattle.block.specs.Outcome.{Lent, Result, result_of, cleared, refused}
use Rattle.block.specs.Answer.{Answer}
use Rattle.block.specs.Answer.{Refused}
use Rattle.block_checks.proofs.Laws.{passed, refused-book, refused-block}
use Rattle.block_checks.specs.Passed.{Passed}
use Rattle.greedy.specs.Greedy as Greedy
use Rattle.greedy.proofs.Choosing as GreedyChoosing
use Rattle.prices.specs.Book.{Book}
use Rattle.prices.specs.Checks.{book_refusal}
use Rattle.problem.proofs.Refusals.{width-free}
use Rattle.search_checks.proofs.Refusing.{no_rows, room_of, accepted, accepted-room, accepted-width}
use Rattle.trellis.specs.Outcome as Trellis
use Rattle.trellis.specs.Walk.{Roomy}
use Rattle.trellis.proofs.Banded.{roomy_of}
use Rattle.trellis.proofs.Demand as TrellisDemand
use Rattle.weights.specs.Window.{window_for, window_of}
use Rattle.weights.specs.declared.Window.{Window}
use Rattle.weights.proofs.Lengths.{whole-window}
use Rattle.searches.specs.Accepted.{Searchable}
use Rattle.searches.specs.Outcome.{asked_by, refusal_of, searched_outcome, search_outcome, Demanded, PromisedIn, Promised}
use Rattle.block_checks.specs.declared.Asked.{Asked}
use Rattle.block_checks.specs.declared.RoomLengths.{RoomLengths}
use Rattle.searches.specs.declared.Search.{Search}
use Rattle.searches.specs.declared.Search.TheVariants.{Greedy, Beam, Trellis, Unfactored}
use Rattle.prices.proofs.Passed.{listed, by-lists}

-- ---- each way that a call ends is the defined outcome
module _ (w : ℕ) (v : Window) (search : Search) (book : Book) (b : Block) (l : Lent) where
  pub refused-outcome : {n : ℕ} → n ≡ refusal_of w v search book b l → (n ≡ 0 → ⊥) → refused n l ≡ search_outcome w v search book b l
  unfolding search_outcome
  refused-outcome e some = rw (ne_eqb (refusal_of w v search book b l) 0 (λ z. some (e ∙ z))) (ap (λ (m : ℕ). refused m l) e)

  -- by the book ..
  pub by-book : {n : ℕ} → n ≡ book_refusal book → (n ≡ 0 → ⊥) → n ≡ refusal_of w v search book b l
  unfolding refusal_of
  by-book e some = e ∙ sym (refused-book w v book b _ (λ z. some (e ∙ z)))

  -- .. or, that having passed, by the block and its room
  pub by-check : book_refusal book ≡ 0 → {a : Asked} → a ≡ asked_by w search → {r : RoomLengths} → r ≡ record { choices = length l.choices; row_a = length l.row_a; row_b = length l.row_b } → {n : ℕ}
      → n ≡ block_refusal w v b (cond (enough_room a.bytes a.floats v.length r.choices r.row_a r.row_b) 0 14)
      → n ≡ refusal_of w v search book b l
  unfolding refusal_of
  by-check ok e k f = (rw (e, k) at f) ∙ sym (refused-block w v book b _ ok)

  pub let-pass : refusal_of w v search book b l ≡ 0 → {after : Result} → after ≡ searched_outcome w v search book b l → after ≡ search_outcome w v search book b l
  unfolding search_outcome
  let-pass none e = rw (eq-eqb (refusal_of w v search book b l) 0 none) e

-- what the checks let pass
pub searchable : (w cap : ℕ) (search : Search) (book : Book) (b : Block) (l : Lent) → 0 < cap → refusal_of w (window_for cap (covered b)) search book b l ≡ 0 → Searchable w (window_for cap (covered b)) search book b l
unfolding refusal_of
searchable w cap search book b l some none =
    record { narrow = accepted-width w cap book b _ none; accepted = accepted w cap book b _ none some; room = accepted-room w cap book b _ none }

-- ---- a search of its own
-- what the checks refuse by, for each
no_room : (window choices row_a row_b : ℕ) → enough_room 0 0 window choices row_a row_b ≡ true
no_room window choices row_a row_b = no_rows 0 window choices row_a row_b ∙ ap (λ (n : ℕ). leb n choices) (zero-mul window) ∙ le-leb 0 choices zero-le

module _ (w : ℕ) (v : Window) (book : Book) (b : Block) (l : Lent) where
  greedy-refusal : refusal_of w v Greedy book b l ≡ Greedy.refusal w v book b
  unfolding refusal_of asked_by Greedy.refusal
  greedy-refusal = ap (search_refusal w v book b) (no_room v.length (length l.choices) (length l.row_a) (length l.row_b))

  beam-refusal : refusal_of w v Beam book b l ≡ Beam.refusal w v book b l.choices
  unfolding refusal_of asked_by Beam.refusal
  beam-refusal = ap (search_refusal w v book b) (no_rows 6 v.length (length l.choices) (length l.row_a) (length l.row_b))

  trellis-outcome : search_outcome w v Trellis book b l ≡ Trellis.banded_outcome w v book b l
  unfolding search_outcome searched_outcome refusal_of asked_by Trellis.banded_outcome Trellis.refusal
  trellis-outcome = refl

  -- the walks have one outcome: levels, cost, count, refusal and room
  pub both-walks : search_outcome w v Unfactored book b l ≡ search_outcome w v Trellis book b l
  unfolding search_outcome searched_outcome refusal_of asked_by
  both-walks = refl

  module _ (own : l.levels ≡ b.levels) where
    -- of an outcome, what greedy and the beam tell
    greedy-told : Greedy.outcome_of (search_outcome w v Greedy book b l).answer (search_outcome w v Greedy book b l).lent.levels ≡ Greedy.greedy_outcome w v book b
    unfolding search_outcome searched_outcome Greedy.greedy_outcome
    greedy-told = rw (← greedy-refusal) (go (eqb (refusal_of w v Greedy book b l) 0) (refusal_of w v Greedy book b l))
      where
        go : (t : Bool) (n : ℕ)
            → Greedy.outcome_of (cond t (searched_outcome w v Greedy book b l) (refused n l)).answer (cond t (searched_outcome w v Greedy book b l) (refused n l)).lent.levels
            ≡ cond t (Greedy.searched_outcome v book b) (Greedy.outcome_of (Refused n) b.levels)
        go true n = refl
        go false n = ap (Greedy.outcome_of (Refused n)) own

    beam-told : Beam.outcome_of (search_outcome w v Beam book b l).answer (search_outcome w v Beam book b l).lent.levels (search_outcome w v Beam book b l).lent.choices ≡ Beam.beam_outcome w v book b l.choices
    unfolding search_outcome searched_outcome Beam.beam_outcome Beam.searched_outcome cleared
    beam-told = rw (← beam-refusal) (go (eqb (refusal_of w v Beam book b l) 0) (refusal_of w v Beam book b l))
      where
        go : (t : Bool) (n : ℕ)
            → Beam.outcome_of (cond t (searched_outcome w v Beam book b l) (refused n l)).answer (cond t (searched_outcome w v Beam book b l) (refused n l)).lent.levels (cond t (searched_outcome w v Beam book b l) (refused n l)).lent.choices
            ≡ cond t (Beam.searched_outcome v book b l.choices) (Beam.outcome_of (Refused n) b.levels l.choices)
        go true n = refl
        go false n = ap (λ (x : List ℤ). Beam.outcome_of (Refused n) x l.choices) own

-- ---- a search that was let pass
module _ {w : ℕ} {v : Window} {search : Search} {book : Book} {b : Block} {l : Lent} (S : Searchable w v search book b l) where
  pub beam-room : search ≡ Beam → 6 * v.length ≤ length l.choices
  unfolding asked_by
  beam-room e = (room_of 6 0 v.length (length l.choices) (length l.row_a) (length l.row_b) (rw e at S.room)).1.1

  pub trellis-room : search ≡ Trellis → Roomy w v l.choices l.row_a l.row_b
  unfolding asked_by
  trellis-room e = roomy_of w v l.choices l.row_a l.row_b refl refl (rw e at S.room)

  pub unfactored-room : search ≡ Unfactored → Roomy w v l.choices l.row_a l.row_b
  unfolding asked_by
  unfactored-room e = roomy_of w v l.choices l.row_a l.row_b refl refl (rw e at S.room)

module _ (w : ℕ) (v : Window) (search : Search) (book : Book) (b : Block) (l : Lent) where
  pub greedy-searched : {answer : Answer} {levels : List ℤ} → search ≡ Greedy → Greedy.outcome_of answer levels ≡ Greedy.searched_outcome v book b
      → result_of answer levels l.choices l.row_a l.row_b ≡ searched_outcome w v search book b l
  unfolding searched_outcome
  greedy-searched which e = rw which (ap (λ (o : Greedy.Outcome). result_of o.answer o.levels l.choices l.row_a l.row_b) e)

  pub beam-searched : {answer : Answer} {levels : List ℤ} {choices choices' : List ℕ} {row_a row_b : List Float} → search ≡ Beam → Beam.outcome_of answer levels choices ≡ Beam.searched_outcome v book b l.choices → choices' ≡ choices
      → row_a ≡ replicate (length l.row_a) (inf false) → row_b ≡ replicate (length l.row_b) (inf false) → result_of answer levels choices' row_a row_b ≡ searched_outcome w v search book b l
  unfolding searched_outcome Beam.searched_outcome cleared
  beam-searched which e k f g =
      rw which (rw (k, f, g) (ap (λ (o : Beam.Outcome). result_of o.answer o.levels o.choices (replicate (length l.row_a) (inf false)) (replicate (length l.row_b) (inf false))) e))

  pub trellis-searched : {after : Result} → search ≡ Trellis → after ≡ Trellis.searched_outcome w v book b l → after ≡ searched_outcome w v search book b l
  unfolding searched_outcome
  trellis-searched which e = rw which e

  pub unfactored-searched : {after : Result} → search ≡ Unfactored → after ≡ Trellis.searched_outcome w v book b l → after ≡ searched_outcome w v search book b l
  unfolding searched_outcome
  unfactored-searched which e = rw which e

-- ---- the half-width
greedy-any : (w n : ℕ) (v : Window) (book : Book) (b : Block) (l : Lent) → valid_width w ≡ true → valid_width n ≡ true → search_outcome w v Greedy book b l ≡ search_outcome n v Greedy book b l
unfolding search_outcome searched_outcome refusal_of asked_by
greedy-any w n v book b l e f =
    ap (λ (r : ℕ). cond (eqb r 0) (searched_outcome w v Greedy book b l) (refused r l)) (width-free w n v book b (enough_room 0 0 v.length (length l.choices) (length l.row_a) (length l.row_b)) e f)

beam-any : (w n : ℕ) (v : Window) (book : Book) (b : Block) (l : Lent) → valid_width w ≡ true → valid_width n ≡ true → search_outcome w v Beam book b l ≡ search_outcome n v Beam book b l
unfolding search_outcome searched_outcome refusal_of asked_by
beam-any w n v book b l e f =
    ap (λ (r : ℕ). cond (eqb r 0) (searched_outcome w v Beam book b l) (refused r l)) (width-free w n v book b (enough_room 6 0 v.length (length l.choices) (length l.row_a) (length l.row_b)) e f)

-- ---- whatever equals the outcome meets the whole contract
module _ (w : ℕ) (v : Window) (book : Book) (b : Block) (within : (n : ℕ) → block_refusal n v b 0 ≡ 0 → Passed v b) (l : Lent) (own : l.levels ≡ b.levels) where
  met : (search : Search) → PromisedIn w v search book b l (search_outcome w v search book b l)
  unfolding Demanded
  met Greedy =
      let P = GreedyChoosing.promised w v book b (within w) (greedy-told w v book b l own) in
      record { outcome = refl; demanded = (P.counted, λ n. greedy-any w n v book b l); keeps = P.keeps }
  met Beam =
      let P = BeamDemand.promised w v book b (within w) l.choices (beam-told w v book b l own) in
      record { outcome = refl; demanded = (P.exact, P.kept, λ n. beam-any w n v book b l); keeps = P.keeps }
  met Trellis =
      let P = TrellisDemand.promised w v book b within l own (trellis-outcome w v book b l) in
      record { outcome = refl; demanded = (P.exact, P.least, P.never_dearer, P.as_wide); keeps = P.keeps }
  met Unfactored =
      let P = TrellisDemand.promised w v book b within l own (both-walks w v book b l ∙ trellis-outcome w v book b l) in
      record { outcome = refl; demanded = (P.exact, P.least, P.never_dearer, P.as_wide, both-walks w v book b l); keeps = P.keeps }

  pub promised : (search : Search) {after : Result} → after ≡ search_outcome w v search book b l → PromisedIn w v search book b l after
  promised search e = subst⁻¹ (PromisedIn w v search book b l) e (met search)

-- ---- what is promised of the checked book is promised of the view
pub for-book : {w : ℕ} {v : Window} {search : Search} {checked book : Book} {b : Block} {l : Lent} {r : Result} → checked ≡ book → PromisedIn w v search checked b l r → PromisedIn w v search book b l r
for-book {w} {v} {search} {checked} {book} {b} {l} {r} e P = subst (λ (k : Book). PromisedIn w v search k b l r) e P

-- ---- document 01's window
pub whole : {w : ℕ} {search : Search} {book : Book} {b : Block} {l : Lent} {r : Result} → PromisedIn w (window_for 1024 (covered b)) search book b l r → Promised w search book b l r
whole {w} {search} {book} {b} {l} {r} P = subst (λ (v : Window). PromisedIn w v search book b l r) (whole-window (covered b)) P

pub whole-promised : (w : ℕ) (search : Search) (book : Book) (b : Block) (l : Lent) → l.levels ≡ b.levels → Promised w search book b l (search_outcome w (window_of (covered b)) search book b l)
whole-promised w search book b l own =
    subst (λ (v : Window). PromisedIn w v search book b l (search_outcome w v search book b l)) (whole-window (covered b))
    (promised w (window_for 1024 (covered b)) book b (λ n. passed n 1024 b (lit≤ tt)) l own search refl)

-- ---- what is promised of a book that passed, by its lists
pub from-lists : {w : ℕ} {v : Window} {search : Search} (book : Book) {b : Block} {l : Lent} {r : Result} → book_refusal book ≡ 0 → PromisedIn w v search (listed book) b l r → PromisedIn w v search book b l r
from-lists {w} {v} {search} book {b} {l} {r} ok P = subst⁻¹ (λ (k : Book). PromisedIn w v search k b l r) (by-lists book ok) P
