-- The outcome of the beam is what document 01 says of its answers. Assumes nothing.
use mathlib.Core.Path.{◌≡◌, refl, sym, ap, ◌∙◌, subst, subst⁻¹}
use mathlib.Core.Bool.{Bool, true, false, cond}
use mathlib.Core.List.{List, Memᴰ as Mem}
use Prim.Native.Nat.{ℕ}
use native.Mathlib.Omega.{arith}
use borrow.Author.Tests.{eqb-true, eq-eqb}
use lib.Dec.{T, eqb}
use lib.IntN.{ℤ}
use lib.ListN.{length}
use lib.Ieee.{Float, inf}
use lib.Ieee.Scale.{finite}
use Rattle.beam_paths.specs.Path.{Path}
use Rattle.block.specs.Band.{half_width, positions_from, past_window, tail_of, problem_of}
use Rattle.block.specs.Block.{Block, with_levels, covered, input_remaining}
use Rattle.block.specs.Checks.{block_refusal, beam_room, valid_width}
use Rattle.block.specs.Choice.{IsChoice, window_levels}
use Rattle.block.specs.Answer.{Answer}
use Rattle.block.specs.Answer.{Cost, Refused}
use Rattle.block_checks.specs.Passed.{Passed}
use Rattle.least_cost.specs.Choice.{Choice, remaining}
use Rattle.least_cost.specs.Search.{count_of, whole_cost}
use Rattle.prices.specs.Book.{Book}
use Rattle.prices.specs.Checks.{book_refusal}
use Rattle.problem.proofs.Refusals.{NoOutcome, search-number, searched, width-free}
use Rattle.problem.proofs.Written.{put-window, put-choice}
use Rattle.scan.specs.Scan.{put}
use Rattle.weights.specs.declared.Window.{Window}
use Rattle.beam.specs.Beam.{path_total, paths_of, beam_cost, beam_count, beam_levels, problem, answered, written, refusal, Outcome, outcome_of, searched_outcome, beam_outcome}
use Rattle.block.specs.Outcome.{RefusedKeeps}
use Rattle.beam.specs.Demand.{RefusedExactly, KeptCost, KeptAnswered, PromisedIn}
use Rattle.beam.proofs.Priced.{levels-choice, levels-count, levels-cost, least_kept, each-infinite, least-infinite}

-- the levels with those of the path found written through the scan
abbrev found-levels : Window → Book → Block → List ℤ
found-levels v book b = put b.scan (beam_levels (problem v book b)) (covered b) v.length b.levels

module _ (v : Window) (book : Book) (b : Block) (ok : book_refusal book ≡ 0) (P : Passed v b) where
  module _ (h : T (finite (beam_cost (problem v book b)))) where
    chosen : Choice (positions_from half_width v book b 0 v.length) (beam_levels (problem v book b))
    unfolding problem_of
    chosen = levels-choice v book ok b P h

    read : window_levels v b (found-levels v book b) ≡ beam_levels (problem v book b)
    read = put-window half_width v book b P (beam_levels (problem v book b)) chosen

    is-choice : IsChoice half_width v book b (found-levels v book b)
    is-choice = put-choice half_width v book b P (beam_levels (problem v book b)) chosen

    counted : beam_count (problem v book b) ≡ input_remaining (with_levels b (found-levels v book b)) (covered b)
    unfolding count_of problem_of tail_of
    counted = sym (levels-count v book ok b P h) ∙ ap (remaining (past_window v b)) (sym read) ∙ is-choice.count

    meets : KeptCost v book b (found-levels v book b) (beam_cost (problem v book b)) (beam_count (problem v book b))
    meets =
        record {
          choice = is-choice;
          cost_is = sym (levels-cost v book ok b P h) ∙ ap (whole_cost (problem v book b)) (sym read);
          count_is = counted;
          is_finite = h;
          least = least_kept v book ok b P;
          first_met = read;
        }

  answered-kept : KeptAnswered v book b (written v book b) (answered v book b)
  unfolding answered written
  answered-kept x n e = go (finite (beam_cost (problem v book b))) _ refl e
    where
      go : (t : Bool) (after : List ℤ) → finite (beam_cost (problem v book b)) ≡ t → cond t (Cost (beam_cost (problem v book b)) (beam_count (problem v book b))) (Refused 16) ≡ Cost x n
          → KeptCost v book b (cond t (found-levels v book b) after) x n
      go true after h k =
          let cost : beam_cost (problem v book b) ≡ x = cc in
          let count : beam_count (problem v book b) ≡ n = cc in
          subst (λ (c : Float). KeptCost v book b (found-levels v book b) c n) cost
          (subst (KeptCost v book b (found-levels v book b) (beam_cost (problem v book b))) count (meets (rw h tt)))
      go false after h k =
          let bad : ◌≡◌ {A = ℕ} 0 1 = cc in
          absurd (omega arith)

  -- 16 is answered exactly where each path that is kept ended at an infinite cost
  refused-only : answered v book b ≡ Refused 16 → (x : Path) → Mem x (paths_of (problem v book b)) → path_total (problem v book b) x ≡ inf false
  unfolding answered
  refused-only e = go (finite (beam_cost (problem v book b))) refl e
    where
      go : (t : Bool) → finite (beam_cost (problem v book b)) ≡ t → cond t (Cost (beam_cost (problem v book b)) (beam_count (problem v book b))) (Refused 16) ≡ Refused 16
          → (x : Path) → Mem x (paths_of (problem v book b)) → path_total (problem v book b) x ≡ inf false
      go true h k =
          let bad : ◌≡◌ {A = ℕ} 0 1 = cc in
          absurd (omega arith)
      go false h k = each-infinite v book ok b P h

  refused-where : ((x : Path) → Mem x (paths_of (problem v book b)) → path_total (problem v book b) x ≡ inf false) → answered v book b ≡ Refused 16
  unfolding answered
  refused-where f = rw (least-infinite v book ok b P f)

-- ---- the same of the whole outcome
either-answer : (t : Bool) (x y : Answer) (k l : List ℤ) (m n : List ℕ) → (cond t (outcome_of x k m) (outcome_of y l n)).answer ≡ cond t x y
either-answer true x y k l m n = refl
either-answer false x y k l m n = refl

either-levels : (t : Bool) (x y : Answer) (k l : List ℤ) (m n : List ℕ) → (cond t (outcome_of x k m) (outcome_of y l n)).levels ≡ cond t k l
either-levels true x y k l m n = refl
either-levels false x y k l m n = refl

-- a window that the checks let pass is one within the block
module _ (w : ℕ) (v : Window) (book : Book) (b : Block) (within : block_refusal w v b 0 ≡ 0 → Passed v b) (choices : List ℕ) where
  answer_is : (beam_outcome w v book b choices).answer ≡ cond (eqb (refusal w v book b choices) 0) (answered v book b) (Refused (refusal w v book b choices))
  unfolding beam_outcome searched_outcome
  answer_is = either-answer (eqb (refusal w v book b choices) 0) _ _ _ _ _ _

  levels_are : (beam_outcome w v book b choices).levels ≡ cond (eqb (refusal w v book b choices) 0) (written v book b) b.levels
  unfolding beam_outcome searched_outcome
  levels_are = either-levels (eqb (refusal w v book b choices) 0) _ _ _ _ _ _

  passed-all : refusal w v book b choices ≡ 0 → (book_refusal book ≡ 0) × Passed v b
  unfolding refusal
  passed-all e =
      let s = searched w v book b _ e in
      (s.0, within s.1.0)

  refusal-number : NoOutcome (refusal w v book b choices)
  unfolding refusal
  refusal-number = search-number w v book b _

  refused-16 : RefusedExactly w v book b choices (cond (eqb (refusal w v book b choices) 0) (answered v book b) (Refused (refusal w v book b choices)))
  refused-16 = (λ e. only (eqb (refusal w v book b choices) 0) refl e, λ h. rw (eq-eqb (refusal w v book b choices) 0 h.0) (refused-where v book b (passed-all h.0).0 (passed-all h.0).1 h.1))
    where
      only : (t : Bool) → eqb (refusal w v book b choices) 0 ≡ t → cond t (answered v book b) (Refused (refusal w v book b choices)) ≡ Refused 16
          → (refusal w v book b choices ≡ 0) × ((x : Path) → Mem x (paths_of (problem v book b)) → path_total (problem v book b) x ≡ inf false)
      only true h e =
          let z = eqb-true (refusal w v book b choices) 0 h in
          (z, refused-only v book b (passed-all z).0 (passed-all z).1 e)
      only false h e =
          let bad : refusal w v book b choices ≡ 16 = cc in
          absurd (refusal-number.not_16 bad)

  kept-answered : KeptAnswered v book b (cond (eqb (refusal w v book b choices) 0) (written v book b) b.levels) (cond (eqb (refusal w v book b choices) 0) (answered v book b) (Refused (refusal w v book b choices)))
  kept-answered x n e = go (eqb (refusal w v book b choices) 0) refl e
    where
      go : (t : Bool) → eqb (refusal w v book b choices) 0 ≡ t → cond t (answered v book b) (Refused (refusal w v book b choices)) ≡ Cost x n → KeptCost v book b (cond t (written v book b) b.levels) x n
      go true h k =
          let z = eqb-true (refusal w v book b choices) 0 h in
          answered-kept v book b (passed-all z).0 (passed-all z).1 x n k
      go false h k =
          let bad : ◌≡◌ {A = ℕ} 0 1 = cc in
          absurd (omega arith)

  -- after 16 too
  answered-keeps : (n : ℕ) → answered v book b ≡ Refused n → written v book b ≡ b.levels
  unfolding written answered
  answered-keeps n e = go (finite (beam_cost (problem v book b))) e
    where
      go : (t : Bool) → cond t (Cost (beam_cost (problem v book b)) (beam_count (problem v book b))) (Refused 16) ≡ Refused n → cond t (found-levels v book b) b.levels ≡ b.levels
      go true k =
          let bad : ◌≡◌ {A = ℕ} 0 1 = cc in
          absurd (omega arith)
      go false k = refl

  refused-keeps : RefusedKeeps b (cond (eqb (refusal w v book b choices) 0) (written v book b) b.levels) (cond (eqb (refusal w v book b choices) 0) (answered v book b) (Refused (refusal w v book b choices)))
  refused-keeps n e = go (eqb (refusal w v book b choices) 0) e
    where
      go : (t : Bool) → cond t (answered v book b) (Refused (refusal w v book b choices)) ≡ Refused n → cond t (written v book b) b.levels ≡ b.levels
      go true k = answered-keeps n k
      go false k = refl

-- ---- whatever equals the outcome meets the whole contract
module _ (w : ℕ) (v : Window) (book : Book) (b : Block) (within : block_refusal w v b 0 ≡ 0 → Passed v b) (choices : List ℕ) {after : Outcome} (e : after ≡ beam_outcome w v book b choices) where
  answered-as : after.answer ≡ cond (eqb (refusal w v book b choices) 0) (answered v book b) (Refused (refusal w v book b choices))
  answered-as = ap (λ (r : Outcome). r.answer) e ∙ answer_is w v book b within choices

  left_as : after.levels ≡ cond (eqb (refusal w v book b choices) 0) (written v book b) b.levels
  left_as = ap (λ (r : Outcome). r.levels) e ∙ levels_are w v book b within choices

  same_outcome : (n : ℕ) → valid_width w ≡ true → valid_width n ≡ true → beam_outcome w v book b choices ≡ beam_outcome n v book b choices
  unfolding beam_outcome refusal
  same_outcome n f g =
      ap (λ (r : ℕ). cond (eqb r 0) (searched_outcome v book b choices) (outcome_of (Refused r) b.levels choices)) (width-free w n v book b (beam_room v.length (length choices)) f g)

  pub promised : PromisedIn w v book b choices after
  promised =
      record {
        outcome = e;
        any_width = λ n f g. e ∙ same_outcome n f g;
        exact = subst⁻¹ (RefusedExactly w v book b choices) answered-as (refused-16 w v book b within choices);
        kept =
            subst⁻¹ (λ (r : Answer). KeptAnswered v book b after.levels r) answered-as
            (subst⁻¹ (λ (l : List ℤ). KeptAnswered v book b l (cond (eqb (refusal w v book b choices) 0) (answered v book b) (Refused (refusal w v book b choices)))) left_as (kept-answered w v book b within choices));
        keeps =
            subst⁻¹ (λ (r : Answer). RefusedKeeps b after.levels r) answered-as
            (subst⁻¹ (λ (l : List ℤ). RefusedKeeps b l (cond (eqb (refusal w v book b choices) 0) (answered v book b) (Refused (refusal w v book b choices)))) left_as (refused-keeps w v book b within choices));
      }
