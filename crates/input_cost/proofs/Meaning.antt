-- What is answered, and what it means. Assumes nothing.
use mathlib.Core.Path.{◌≡◌, refl, sym, ap, ◌∙◌, subst}
use mathlib.Core.Bool.{Bool, true, false, cond}
use mathlib.Core.List.{List, [], ◌∷◌}
use Prim.Native.Nat.{ℕ, zero, suc, ◌*◌}
use native.Mathlib.Nat.{zero-mul}
use native.Mathlib.Omega.{arith}
use borrow.Author.Tests.{eqb-true, eq-eqb, ne_eqb}
use lib.Dec.{T, eqb, leb, lit≤}
use lib.IntN.{ℤ}
use lib.Ieee.{Float, le, add, binary32}
use Rattle.block.specs.Band.{half_width, position_at, positions_from, tail_of, problem_of}
use Rattle.block.specs.Block.{Block, with_levels, covered, input_remaining}
use Rattle.block.specs.Checks.{valid_width, form_checks, content_checks, block_refusal, search_refusal, enough_room}
use Rattle.block.specs.Choice.{window_levels}
use Rattle.block.specs.Cost.{first_prev, count_cost}
use Rattle.block.specs.Outcome.{Lent, refused}
use Rattle.block.specs.Answer.{Answer}
use Rattle.block.specs.Answer.{Cost, Refused}
use Rattle.block_checks.specs.Passed.{Passed}
use Rattle.block_checks.proofs.Laws.{passed}
use Rattle.costs.specs.Cost.{cost as is_cost}
use Rattle.laws.specs.Refusals.{first_refused}
use Rattle.least_cost.specs.Choice.{remaining, cost_of}
use Rattle.least_cost.specs.Position.{Tail, nz}
use Rattle.least_cost.specs.Search.{count_of, whole_cost}
use Rattle.least_cost.proofs.Whole.{whole-cost}
use Rattle.prices.specs.Book.{Book}
use Rattle.prices.proofs.Passed.{listed, by-lists}
use Rattle.problem.proofs.Main.{input-in-band}
use Rattle.problem.proofs.Problem.{sound}
use Rattle.problem.proofs.Refusals.{searched, still-searched}
use Rattle.search_checks.specs.Checked.{Checked, Searched}
use Rattle.search_checks.proofs.Checked.{own-lists}
use Rattle.search_checks.proofs.Refusing.{no_rows, window-of}
use Rattle.steps.specs.declared.plan.Plan.{Plan}
use Rattle.trellis.specs.Demand.{LeastCost}
use Rattle.trellis.specs.Outcome.{refusal, searched_outcome, banded_outcome}
use Rattle.trellis.proofs.Demand.{least-answered}
use Rattle.weights.proofs.Lengths.{whole-window}
use Rattle.weights.specs.Window.{window_for}
use Rattle.weights.specs.declared.Window.{Window}
use Rattle.input_cost.specs.Input.{input_refusal, input_cost, input_answer, AtLambda, PromisedIn, Promised}
use Rattle.input_cost.proofs.Again.{same_whole}

-- ---- the checks are those of a search that asks for no room, at a half-width that passes
module _ (v : Window) (book : Book) (b : Block) where
  checks-same : search_refusal half_width v book b true ≡ input_refusal v book b
  unfolding search_refusal block_refusal input_refusal form_checks content_checks first_refused valid_width
  checks-same = refl

  by-check : {n : ℕ} → n ≡ search_refusal half_width v book b (enough_room 0 0 v.length 0 0 0) → n ≡ input_refusal v book b
  by-check e =
      let none : enough_room 0 0 v.length 0 0 0 ≡ true = no_rows 0 v.length 0 0 0 ∙ ap (λ (n : ℕ). leb n 0) (zero-mul v.length) in
      e ∙ ap (search_refusal half_width v book b) none ∙ checks-same

  -- a book that passes is the book of its lists
  own-lists-of : input_refusal v book b ≡ 0 → book ≡ listed book
  own-lists-of e = by-lists book (searched half_width v book b true (checks-same ∙ e)).0

  -- ---- the answer
  refused-answer : {n : ℕ} → n ≡ input_refusal v book b → (n ≡ 0 → ⊥) → Refused n ≡ input_answer v book b
  unfolding input_answer
  refused-answer e some = rw (ne_eqb (input_refusal v book b) 0 (λ z. some (e ∙ z))) (ap Refused e)

  cost-answer : input_refusal v book b ≡ 0 → Cost (input_cost v book b) (input_remaining b (covered b)) ≡ input_answer v book b
  unfolding input_answer
  cost-answer e = rw (eq-eqb (input_refusal v book b) 0 e)

  -- ---- the half-width plays no part in a cost
  module _ (w w' : ℕ) where
    cost-same : (t : Tail) (n i p : ℕ) (cs : List ℤ) → cost_of t (positions_from w v book b i n) p cs ≡ cost_of t (positions_from w' v book b i n) p cs
    unfolding positions_from position_at cost_of
    cost-same t zero i p cs = refl
    cost-same t (suc n) i p [] = refl
    cost-same t (suc n) i p (c ∷ cs) = ap (add binary32 _) (cost-same t n (suc i) (nz c) cs)

    whole_same : (cs : List ℤ) → whole_cost (problem_of w v book b) cs ≡ whole_cost (problem_of w' v book b) cs
    unfolding whole_cost count_of problem_of
    whole_same cs =
        ap (λ (x : Float). add binary32 x (count_cost book b (remaining (tail_of v book b).count cs)))
        (cost-same (tail_of v book b) v.length 0 (first_prev b (remaining (tail_of v book b).count cs)) cs)

  -- ---- what the answer means
  -- whatever its levels, a block that passes the checks has the window within it
  module _ (within : (x : List ℤ) (n : ℕ) → block_refusal n v (with_levels b x) 0 ≡ 0 → Passed v (with_levels b x)) where
    input-cost : input_refusal v book b ≡ 0 → T (is_cost (input_cost v book b))
    unfolding input_cost window_levels
    input-cost e =
        let s = searched half_width v book b true (checks-same ∙ e) in
        let P = within b.levels half_width s.1.0 in
        whole-cost (problem_of half_width v book b) (sound book s.0 v b P half_width) _ (input-in-band half_width v book s.0 b P)

    answered-cost : (x : Float) (count : ℕ) → input_answer v book b ≡ Cost x count → T (is_cost x)
    unfolding input_answer
    answered-cost x count e = go (eqb (input_refusal v book b) 0) refl e
      where
        go : (t : Bool) → eqb (input_refusal v book b) 0 ≡ t → cond t (Cost (input_cost v book b) (input_remaining b (covered b))) (Refused (input_refusal v book b)) ≡ Cost x count → T (is_cost x)
        go true h k =
            let same : input_cost v book b ≡ x = cc in
            subst (λ (y : Float). T (is_cost y)) same (input-cost (eqb-true (input_refusal v book b) 0 h))
        go false h k =
            let bad : ◌≡◌ {A = ℕ} 0 1 = cc in
            absurd (omega arith)

    -- the trellis answers a cost only where its checks pass
    trellis-passed : (w : ℕ) (l : Lent) (x : Float) (count : ℕ) → (banded_outcome w v book b l).answer ≡ Cost x count → refusal w v book b l ≡ 0
    unfolding banded_outcome
    trellis-passed w l x count e = go (eqb (refusal w v book b l) 0) refl e
      where
        go : (t : Bool) → eqb (refusal w v book b l) 0 ≡ t → (cond t (searched_outcome w v book b l) (refused (refusal w v book b l) l)).answer ≡ Cost x count → refusal w v book b l ≡ 0
        go true h k = eqb-true (refusal w v book b l) 0 h
        go false h k =
            let bad : ◌≡◌ {A = ℕ} 0 1 = cc in
            absurd (omega arith)

    passed-too : (w : ℕ) (l : Lent) → refusal w v book b l ≡ 0 → input_refusal v book b ≡ 0
    unfolding refusal valid_width
    passed-too w l e = sym checks-same ∙ still-searched half_width w v book b _ refl e

    least-too : (w : ℕ) (l : Lent) (x : Float) (count : ℕ) → (banded_outcome w v book b l).answer ≡ Cost x count → T (le x (input_cost v book b))
    unfolding input_cost
    least-too w l x count e =
        subst (λ (y : Float). T (le x y)) (whole_same w half_width (window_levels v b b.levels)) (least-answered w v book b (within b.levels w) l x count e).least_of_input

    -- ---- levels that the trellis wrote
    module _ (w : ℕ) (l : Lent) (before : List ℤ) (x : Float) (count : ℕ) (e : (banded_outcome w v book (with_levels b before) l).answer ≡ Cost x count)
        (wrote : (banded_outcome w v book (with_levels b before) l).lent.levels ≡ b.levels) where
      found : LeastCost w v book (with_levels b before) b.levels x count
      found = subst (λ (y : List ℤ). LeastCost w v book (with_levels b before) y x count) wrote (least-answered w v book (with_levels b before) (within before w) l x count e)

      written-cost : AtLambda v b before → x ≡ input_cost v book b
      unfolding window_levels covered
      written-cost charged =
          found.cost_is ∙ same_whole v book b before (λ j far m. sym (found.choice.after j far (omega (arith, m, far)))) charged w

      written_count : count ≡ input_remaining b (covered b)
      unfolding covered
      written_count = found.count_is

      again-cost : AtLambda v b before → input_refusal v book b ≡ 0 → input_answer v book b ≡ Cost x count
      again-cost charged none =
          sym (cost-answer none) ∙ ap (λ (y : Float). Cost y (input_remaining b (covered b))) (sym (written-cost charged)) ∙ ap (Cost x) (sym written_count)

    promised : {answer : Answer} → answer ≡ input_answer v book b → PromisedIn v book b answer
    promised e =
        record {
          outcome = e;
          is_cost = λ x count h. answered-cost x count (sym e ∙ h);
          never_less = λ w l x count h.
              record {
                cost = input_cost v book b;
                count = input_remaining b (covered b);
                is = e ∙ sym (cost-answer (passed-too w l (trellis-passed w l x count h)));
                no_less = least-too w l x count h;
              };
          again = λ w l before x count h wrote charged none. e ∙ again-cost w l before x count h wrote charged none;
        }

-- ---- the two ends of the call, with document 01's window
module _ (book : Book) (b : Block) where
  whole : {answer : Answer} → answer ≡ input_answer (window_for 1024 (covered b)) book b → Promised book b answer
  unfolding covered
  whole {answer} e =
      subst (λ (v : Window). PromisedIn v book b answer) (whole-window (covered b)) (promised (window_for 1024 (covered b)) book b (λ x n. passed n 1024 (with_levels b x) (lit≤ tt)) e)

  module _ {n : ℕ} (e : n ≡ search_refusal half_width (window_for 1024 (covered b)) book b (enough_room 0 0 (window_for 1024 (covered b)).length 0 0 0)) where
    pub refuses : (n ≡ 0 → ⊥) → Promised book b (Refused n)
    refuses some = whole (refused-answer _ book b (by-check _ book b e) some)

    pub answers : n ≡ 0 → {checked : Book} → checked ≡ book → {answer : Answer} → answer ≡ Cost (input_cost (window_for 1024 (covered b)) checked b) (input_remaining b (covered b)) → Promised book b answer
    answers none same ea =
        let passing = sym (by-check _ book b e) ∙ none in
        whole (ea ∙ ap (λ (k : Book). Cost (input_cost (window_for 1024 (covered b)) k b) (input_remaining b (covered b))) same ∙ cost-answer _ book b passing)

-- the plan's window is document 01's
pub own-cost : {book : Book} (b : Block) {p : Plan} → Checked book b p → p.window ≡ window_for 1024 (b.shape.cx * b.shape.cy) → {answer : Answer}
    → ((s : Searched book b.scan b.source b.inverse b.levels p) → answer ≡ Cost (input_cost p.window book s.block) (input_remaining s.block (covered s.block)))
    → answer ≡ Cost (input_cost (window_for 1024 (covered b)) book b) (input_remaining b (covered b))
own-cost {book} b K e f =
    f (record { block = b; lists = own-lists b; checked = K }) ∙ ap (λ (x : Window). Cost (input_cost x book b) (input_remaining b (covered b))) (window-of 1024 b e)
