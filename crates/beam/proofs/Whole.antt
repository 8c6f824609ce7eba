-- What the whole search hands to its steps, and what it writes and answers. Assumes nothing.
use mathlib.Core.Path.{◌≡◌, sym, ap, ap₂, ◌∙◌}
use mathlib.Core.Bool.{Bool, true, false}
use mathlib.Core.List.{List}
use Prim.Native.Nat.{ℕ, ◌*◌, ◌≤◌, ◌<◌, zero-le}
use native.Mathlib.Omega.{arith}
use lib.IntN.{ℤ}
use lib.ListN.{length, get_or}
use lib.Dec.{T}
use lib.Ieee.{Float, inf, lt}
use lib.Ieee.Scale.{finite}
use Rattle.beam_paths.specs.Held.{PathsFor}
use Rattle.beam_paths.specs.Path.{Path}
use Rattle.beam_paths.specs.declared.Paths.{Paths}
use Rattle.block.specs.Band.{problem_of}
use Rattle.block.specs.Block.{covered}
use Rattle.block.specs.Cost.{first_prev}
use Rattle.block.specs.Answer.{Answer}
use Rattle.block.specs.Answer.{Cost, Refused}
use Rattle.costs.proofs.Order.{lt-inf}
use Rattle.prices.specs.Book.{Book}
use Rattle.scan.specs.Scan.{put}
use Rattle.search_checks.specs.Checked.{Searched}
use Rattle.steps.specs.declared.plan.Plan.{Plan}
use Rattle.beam.specs.Beam.{beam_cost, beam_count, beam_levels, problem, answered, written}
use Rattle.beam.specs.Held.{paths, levels_of, Reached, Countable, Ended, Walkable, Done}
use Rattle.steps.specs.declared.best.Best.{Best}
use Rattle.beam.proofs.Priced.{beam-cost, path-finite}
use Rattle.beam.proofs.Taking.{fits-of}

pub longer : {k m n : ℕ} → m ≡ n → k ≤ n → k ≤ m
longer e h = rw e h

-- ---- what the steps go by
module _ {book : Book} {scan : List ℕ} {source inverse : List Float} {levels : List ℤ} {plan : Plan} (w : Searched book scan source inverse levels plan) where
  pub countable : {s : Paths} → PathsFor (paths plan.window book w.block 0) s → Countable book plan s
  countable {s} F =
      record {
        priced = w.checked.book_passed;
        covered = omega (arith, w.checked.planned.covered_is, w.checked.passed.most);
        few = F.few;
        three = F.three;
        six = F.six;
        counts = λ j h.
            let l : j < length (paths plan.window book w.block 0) = omega (arith, F.count_is) in
            omega (arith, F.remaining_is j l, fits-of w.checked 0 j zero-le l, w.checked.passed.most);
      }

  -- the search that is done is the block's
  module _ {choices : List ℕ} {s : Paths} {best : Best ℕ} (R : Reached plan.window book w.block 0 choices s) (E : Ended plan.window book w.block best) (room : 6 * plan.window.length ≤ length choices) where
    pub done-of : Done scan source inverse levels plan choices s best
    done-of = record { book = book; searched = w; reached = R; ended = E; room = room }

    pub done-answer : {answer : Answer} {after : List ℤ} → ((d : Done scan source inverse levels plan choices s best) → (answer ≡ answered plan.window d.book d.searched.block) × (after ≡ written plan.window d.book d.searched.block))
        → (answer ≡ answered plan.window book w.block) × (after ≡ written plan.window book w.block)
    unfolding done-of
    done-answer e = e done-of

-- ---- what is written, and answered
module _ {scan : List ℕ} {source inverse : List Float} {levels : List ℤ} {plan : Plan} {choices : List ℕ} {s : Paths} {best : Best ℕ} (d : Done scan source inverse levels plan choices s best) where
  -- the test for a finite cost
  pub tested : {y : Float} {q : Bool} → y ≡ inf false → lt best.cost y ≡ q → finite (beam_cost (problem plan.window d.book d.searched.block)) ≡ q
  tested {y} e t =
      sym (lt-inf (beam_cost (problem plan.window d.book d.searched.block)) (beam-cost plan.window d.book d.searched.checked.book_passed d.searched.block d.searched.checked.passed))
      ∙ ap₂ lt (sym d.ended.cost_is) (sym e)
      ∙ t

  module _ (h : finite (beam_cost (problem plan.window d.book d.searched.block)) ≡ true) where
    holds : T (finite (beam_cost (problem plan.window d.book d.searched.block)))
    holds = rw h tt

    pub inside : best.choice < length (paths plan.window d.book d.searched.block 0)
    inside = d.ended.inside (rw d.ended.cost_is holds)

    pub path-few : best.choice < s.count
    path-few = omega (arith, inside, d.reached.paths_are.count_is)

    pub count_is : {n : ℕ} → n ≡ get_or s.remaining best.choice 0 → n ≡ beam_count (problem plan.window d.book d.searched.block)
    unfolding beam_count
    count_is e = e ∙ d.reached.paths_are.remaining_is best.choice inside ∙ ap (λ (x : Path). x.remaining) d.ended.path_is

    pub count-few : {n : ℕ} → n ≡ get_or s.remaining best.choice 0 → n ≤ 65536
    count-few e = omega (arith, d.reached.paths_are.remaining_is best.choice inside, fits-of d.searched.checked 0 best.choice zero-le inside, d.searched.checked.passed.most)

    pub walkable : {n : ℕ} → n ≡ get_or s.remaining best.choice 0 → Walkable scan source inverse levels plan choices best.choice n
    unfolding beam_count
    walkable {n} e =
        record {
          book = d.book;
          searched = d.searched;
          chosen = λ j l. d.reached.chosen j zero-le l;
          room = d.room;
          inside = inside;
          cheap = rw (count_is e, d.ended.path_is) (path-finite plan.window d.book d.searched.checked.book_passed d.searched.block d.searched.checked.passed holds);
        }

    pub levels-written : {n : ℕ} (e : n ≡ get_or s.remaining best.choice 0) {after : List ℤ}
        → ((w : Walkable scan source inverse levels plan choices best.choice n) → after ≡ put scan (levels_of plan.window w.book w.searched.block best.choice n) (covered w.searched.block) plan.window.length levels)
        → after ≡ written plan.window d.book d.searched.block
    unfolding written walkable beam_levels problem_of
    levels-written {n} e f =
        rw h
        (f (walkable e)
        ∙ ap₂ (λ (t : List ℕ) (l : List ℤ). put t (levels_of plan.window d.book d.searched.block best.choice n) (covered d.searched.block) plan.window.length l) d.searched.lists.scan_is d.searched.lists.levels_is
        ∙ ap (λ (z : List ℤ). put d.searched.block.scan z (covered d.searched.block) plan.window.length d.searched.block.levels)
        (ap₂ (λ (x : Path) (k : ℕ). x.levels (first_prev d.searched.block k)) d.ended.path_is (count_is e)))

    pub cost-answered : {n : ℕ} → n ≡ get_or s.remaining best.choice 0 → Cost best.cost n ≡ answered plan.window d.book d.searched.block
    unfolding answered
    cost-answered e = rw h (ap₂ Cost d.ended.cost_is (count_is e))

  module _ (h : finite (beam_cost (problem plan.window d.book d.searched.block)) ≡ false) where
    pub levels-kept : levels ≡ written plan.window d.book d.searched.block
    unfolding written
    levels-kept = rw h d.searched.lists.levels_is

    pub refused-16 : Refused 16 ≡ answered plan.window d.book d.searched.block
    unfolding answered
    refused-16 = rw h
