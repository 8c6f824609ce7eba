-- What the whole search hands to its steps. Assumes nothing.
use mathlib.Core.Path.{◌≡◌, sym, ap, ap₂, ◌∙◌, subst⁻¹}
use mathlib.Core.Bool.{Bool, true, false}
use mathlib.Core.List.{List}
use Prim.Native.Nat.{ℕ, ◌+◌, ◌-◌, ◌≤◌}
use native.Mathlib.Nat.{add-zero}
use native.Mathlib.Omega.{arith}
use lib.IntN.{ℤ}
use lib.ListN.{length}
use lib.Dec.{T}
use lib.Ieee.{Float, inf, lt}
use lib.Ieee.Scale.{finite}
use Rattle.block.specs.Block.{Block, covered, input_remaining}
use Rattle.block.specs.Band.{positions_from, problem_of, tail_of}
use Rattle.block.specs.Checks.{states}
use Rattle.block.specs.Cost.{first_prev}
use Rattle.block.specs.Answer.{Cost, Refused}
use Rattle.costs.proofs.Order.{lt-inf}
use Rattle.least_cost.specs.Search.{best, walk, least_total, least_count, least_levels}
use Rattle.least_cost.proofs.Whole.{Sound, least_total-cost, best-finite}
use Rattle.prices.specs.Book.{Book}
use Rattle.problem.proofs.Main.{found, count-within}
use Rattle.problem.proofs.Problem.{sound}
use Rattle.scan.specs.Scan.{put}
use Rattle.search_checks.specs.Checked.{positions, Checked, Searched}
use Rattle.search_checks.proofs.Checked.{remaining-few, window-some}
use Rattle.search_checks.specs.Start.{Starts}
use Rattle.search_checks.specs.declared.start.Start.{Start}
use Rattle.steps.specs.declared.plan.Plan.{Plan}
use Rattle.trellis_table.specs.Rows.{RowAt, Rowed, FirstRow, TailFor, TailRow, live_of}
use Rattle.trellis_table.specs.declared.exchange.Live.{Live}
use Rattle.trellis_table.specs.declared.exchange.Live.TheVariants.{First, Second}
use Rattle.trellis_table.specs.declared.position.Step.{Step}
use Rattle.weights.specs.declared.Window.{Window}
use Rattle.trellis.specs.Walk.{walked, Walkable, Done}
use Rattle.trellis.specs.Outcome.{answered, written}
use Rattle.trellis.specs.declared.search.Found.{Found}

pub still-long : {k m n : ℕ} → m ≡ n → k ≤ n → k ≤ m
still-long e h = rw e h

live-long : (k : ℕ) (t : Live) (a b live : List Float) → live ≡ live_of t a b → k ≤ length a → k ≤ length b → k ≤ length live
unfolding live_of
live-long k First a b live e h l = rw e h
live-long k Second a b live e h l = rw e l

-- what the positions are handed
abbrev pub tail-for : {book : Book} {scan : List ℕ} {source inverse : List Float} {levels : List ℤ} {p : Plan} (s : Searched book scan source inverse levels p) {start : Start} {first : List Float}
    → Starts p.window book s.block start → TailRow p.window book s.block first → TailFor book scan source inverse levels p start.past first
tail-for s t r = record { searched = s; past_is = t.past_is; row_is = r }

-- the row handed back is the live one
module _ {hw : ℕ} {v : Window} {book : Book} {b : Block} {first second : List Float} {choices : List ℕ} {s : Step} {t : Live} (R : Rowed hw v book b 0 first second choices s t) {live : List Float} (e : live ≡ live_of t first second) where
  pub live-stands : RowAt hw v book b 0 live s.counts
  live-stands = subst⁻¹ (λ (row : List Float). RowAt hw v book b 0 row s.counts) e R.live

  pub live-room : {k : ℕ} → k ≤ length first → k ≤ length second → k ≤ length live
  live-room {k} h l = live-long k t first second live e h l

-- the last step's row
abbrev pub first-row : {hw : ℕ} {book : Book} {scan : List ℕ} {source inverse : List Float} {levels : List ℤ} {p : Plan} (s : Searched book scan source inverse levels p) → hw ≤ 12
    → {first second : List Float} {choices : List ℕ} {step : Step} {t : Live} → Rowed hw p.window book s.block 0 first second choices step t → {live : List Float} → live ≡ live_of t first second
    → states hw ≤ length first → states hw ≤ length second → FirstRow book p live step.counts
first-row {hw} s narrow R e h l =
    record {
      width = hw;
      block = s.block;
      rowable = record { checked = s.checked; narrow = narrow };
      row_is = live-stands R e;
      counts_are = R.counts_are (window-some s.checked);
      room = live-room R e h l;
    }

pub from_first : (b : Block) {n : ℕ} → n ≡ input_remaining b (covered b + 0) → n ≡ input_remaining b (covered b)
from_first b e = rw (add-zero (covered b)) at e

module _ (hw : ℕ) {book : Book} {b : Block} {p : Plan} (K : Checked book b p) where
  -- ---- the answer
  whole-sound : Sound (problem_of hw p.window book b)
  whole-sound = sound book K.book_passed p.window b K.passed hw

  pub finite-below : {x : Float} → x ≡ least_total (problem_of hw p.window book b) → lt x (inf false) ≡ finite (least_total (problem_of hw p.window book b))
  finite-below e = ap (λ (y : Float). lt y (inf false)) e ∙ lt-inf (least_total (problem_of hw p.window book b)) (least_total-cost (problem_of hw p.window book b) whole-sound)

  module _ (h : T (finite (least_total (problem_of hw p.window book b)))) where
    pub count-least : hw ≤ 12 → least_count (problem_of hw p.window book b) ≤ 65549
    count-least few =
        let a = found hw p.window book K.book_passed b K.passed h in
        let near = (count-within hw p.window book K.book_passed b K.passed (least_levels (problem_of hw p.window book b)) a.banded).1 in
        omega (arith, near, a.count, remaining-few K (covered b))

    pub cheap-count : {n : ℕ} → n ≡ least_count (problem_of hw p.window book b) → T (finite (best (tail_of p.window book b) (positions hw p.window book b 0) n (first_prev b n)))
    unfolding problem_of
    cheap-count {n} e =
        let all : p.window.length - 0 ≡ p.window.length = omega arith in
        subst⁻¹ (λ (k : ℕ). T (finite (best (tail_of p.window book b) (positions_from hw p.window book b 0 k) n (first_prev b n)))) all
        (subst⁻¹ (λ (m : ℕ). T (finite (best (tail_of p.window book b) (positions_from hw p.window book b 0 p.window.length) m (first_prev b m)))) e
        (best-finite (problem_of hw p.window book b) whole-sound h))

    pub walked-least : {n : ℕ} → n ≡ least_count (problem_of hw p.window book b) → walked hw p.window book b n ≡ least_levels (problem_of hw p.window book b)
    unfolding problem_of least_levels
    walked-least {n} e =
        let all : p.window.length - 0 ≡ p.window.length = omega arith in
        ap (λ (k : ℕ). walk (tail_of p.window book b) (positions_from hw p.window book b 0 k) n (first_prev b n)) all
        ∙ ap (λ (m : ℕ). walk (tail_of p.window book b) (positions_from hw p.window book b 0 p.window.length) m (first_prev b m)) e

-- ---- what is written, and answered
module _ {hw : ℕ} {scan : List ℕ} {source inverse : List Float} {levels : List ℤ} {plan : Plan} {choices : List ℕ} {f : Found} (d : Done hw scan source inverse levels plan choices f) where
  pub walkable : T (finite (least_total (problem_of hw plan.window d.book d.searched.block))) → Walkable hw scan source inverse levels plan f.past f.nonzeros choices f.count
  walkable h =
      record {
        narrow = d.narrow;
        book = d.book;
        searched = d.searched;
        past_is = d.found.past_is;
        nonzeros_are = d.found.nonzeros_are;
        chosen = d.found.chosen;
        room = d.room;
        cheap = cheap-count hw d.searched.checked h d.found.count_is;
      }

  -- the test for a finite cost
  pub tested : {y : Float} {q : Bool} → y ≡ inf false → lt f.cost y ≡ q → finite (least_total (problem_of hw plan.window d.book d.searched.block)) ≡ q
  tested {y} e t = sym (finite-below hw d.searched.checked d.found.cost_is) ∙ ap (λ (z : Float). lt f.cost z) (sym e) ∙ t

  module _ (h : finite (least_total (problem_of hw plan.window d.book d.searched.block)) ≡ true) where
    pub holds : T (finite (least_total (problem_of hw plan.window d.book d.searched.block)))
    holds = rw h tt

    pub levels-written : {after : List ℤ}
        → ((w : Walkable hw scan source inverse levels plan f.past f.nonzeros choices f.count) → after ≡ put scan (walked hw plan.window w.book w.searched.block f.count) (covered w.searched.block) plan.window.length levels)
        → after ≡ written hw plan.window d.book d.searched.block
    unfolding written walkable
    levels-written e =
        rw h
        (e (walkable holds)
        ∙ ap₂ (λ (s : List ℕ) (l : List ℤ). put s (walked hw plan.window d.book d.searched.block f.count) (covered d.searched.block) plan.window.length l) d.searched.lists.scan_is d.searched.lists.levels_is
        ∙ ap (λ (z : List ℤ). put d.searched.block.scan z (covered d.searched.block) plan.window.length d.searched.block.levels) (walked-least hw d.searched.checked holds d.found.count_is))

    pub count-few : f.count ≤ 65549
    count-few = rw d.found.count_is (count-least hw d.searched.checked holds d.narrow)

    pub cost-answered : Cost f.cost f.count ≡ answered hw plan.window d.book d.searched.block
    unfolding answered
    cost-answered = rw h (ap₂ Cost d.found.cost_is d.found.count_is)

  module _ (h : finite (least_total (problem_of hw plan.window d.book d.searched.block)) ≡ false) where
    pub levels-kept : levels ≡ written hw plan.window d.book d.searched.block
    unfolding written
    levels-kept = rw h d.searched.lists.levels_is

    pub refused-15 : Refused 15 ≡ answered hw plan.window d.book d.searched.block
    unfolding answered
    refused-15 = rw h
