-- The whole search, over the count: where its least cost is finite, its levels are a choice in the band that costs exactly that, no choice in the band costs less, and none with a smaller
-- count costs as little. The least cost is infinite exactly where every choice in the band is. Assumes nothing.
use mathlib.Core.Path.{◌≡◌, sym, ap, ◌∙◌, subst, subst⁻¹}
use mathlib.Core.Logic.{◌↔◌}
use Prim.Native.Nat.{ℕ, ◌≤◌, ◌<◌}
use mathlib.Core.Bool.{Bool, true, false, not}
use mathlib.Core.List.{List, Memᴰ as Mem}
use lib.IntN.{ℤ}
use lib.Dec.{T}
use lib.Ieee.{Float, inf, binary32, add, le, lt}
use lib.Ieee.Scale.{finite}
use Rattle.costs.specs.Cost.{cost}
use Rattle.costs.proofs.View.{at-inf, viewed}
use Rattle.costs.proofs.Order as Order
use Rattle.costs.proofs.Sum.{add-cost, add-mono-left, finite-terms}
use Rattle.least_cost.specs.Choice.{cost_of}
use Rattle.least_cost.specs.Search.{Problem, Banded, best, count_of, whole_cost, total, up_from, least_total, least_count, least_levels}
use Rattle.least_cost.proofs.First.{Found, found-mem, finite-found, least-cost, least-le}
use Rattle.least_cost.proofs.Best.{AllPriced, Walked, best-costs, choice-cost, walked, none-less}
use Rattle.least_cost.proofs.Counts.{Between, tried-between, between-tried, smaller_before}

-- what is asked of a problem: every price is a cost, and the counts that are tried leave no choice in the band out
pub record Sound (w : Problem) : Type 0 where
  pub priced : AllPriced w.tail w.positions
  pub firsts : (n : ℕ) → w.first_prev n ≤ 1
  pub counts : (n : ℕ) → Between w.fewest w.width n → T (cost (w.count_cost n))
  pub covers : (cs : List ℤ) → Banded w cs → Between w.fewest w.width (count_of w cs)

-- what is shown of the answer
pub record Answer (w : Problem) : Type 0 where
  pub banded : Banded w (least_levels w)
  pub count : count_of w (least_levels w) ≡ least_count w
  pub costs : whole_cost w (least_levels w) ≡ least_total w
  pub least : (cs : List ℤ) → Banded w cs → T (le (least_total w) (whole_cost w cs))
  pub smallest : (cs : List ℤ) → Banded w cs → count_of w cs < least_count w → T (lt (least_total w) (whole_cost w cs))

module _ (w : Problem) (S : Sound w) where
  total-cost : (n : ℕ) → Mem n (up_from w.fewest w.width) → T (cost (total w n))
  unfolding total
  total-cost n m =
      add-cost binary32 (best w.tail w.positions n (w.first_prev n)) (w.count_cost n)
      ((best-costs w.tail w.positions S.priced).costs n (w.first_prev n) (S.firsts n))
      (S.counts n (tried-between w.fewest w.width n m))

  pub least_total-cost : T (cost (least_total w))
  unfolding least_total
  least_total-cost = least-cost (total w) (inf false) (up_from w.fewest w.width) (viewed at-inf) total-cost

  -- ---- a choice in the band
  module _ (cs : List ℤ) (B : Banded w cs) where
    counted : Mem (count_of w cs) (up_from w.fewest w.width)
    counted = between-tried w.fewest w.width (count_of w cs) (S.covers cs B)

    pub whole-cost : T (cost (whole_cost w cs))
    unfolding whole_cost count_of
    whole-cost =
        let n = count_of w cs in
        add-cost binary32 (cost_of w.tail w.positions (w.first_prev n) cs) (w.count_cost n)
        (choice-cost w.tail (w.first_prev n) S.priced (S.firsts n) B.choice B.band) (S.counts n (S.covers cs B))

    -- it costs at least the least of its count
    total-less : T (le (total w (count_of w cs)) (whole_cost w cs))
    unfolding total whole_cost count_of
    total-less =
        let n = count_of w cs in
        let p = w.first_prev n in
        add-mono-left binary32 (best w.tail w.positions n p) (cost_of w.tail w.positions p cs) (w.count_cost n)
        ((best-costs w.tail w.positions S.priced).costs n p (S.firsts n))
        (choice-cost w.tail p S.priced (S.firsts n) B.choice B.band)
        (S.counts n (S.covers cs B))
        (none-less w.tail p S.priced (S.firsts n) B.choice B.band)

    pub whole-less : T (le (least_total w) (whole_cost w cs))
    unfolding least_total
    whole-less =
        Order.le_trans (least_total w) (total w (count_of w cs)) (whole_cost w cs) least_total-cost (total-cost (count_of w cs) counted) whole-cost
        (least-le (total w) (inf false) (up_from w.fewest w.width) (viewed at-inf) total-cost (count_of w cs) counted)
        total-less

  -- ---- the answer, where the least cost is finite
  pub counted-first : T (finite (least_total w)) → Found (total w) (inf false) (up_from w.fewest w.width) (least_total w) (least_count w)
  unfolding least_total least_count
  counted-first h = finite-found (total w) w.fewest (up_from w.fewest w.width) total-cost h

  module _ (h : T (finite (least_total w))) where
    in-range : Mem (least_count w) (up_from w.fewest w.width)
    in-range = found-mem (total w) (inf false) (up_from w.fewest w.width) (least_total w) (least_count w) (counted-first h)

    pub best-finite : T (finite (best w.tail w.positions (least_count w) (w.first_prev (least_count w))))
    unfolding total
    best-finite =
        let n = least_count w in
        (finite-terms binary32 (best w.tail w.positions n (w.first_prev n)) (w.count_cost n)
        ((best-costs w.tail w.positions S.priced).costs n (w.first_prev n) (S.firsts n))
        (S.counts n (tried-between w.fewest w.width n in-range))
        (subst (λ (z : Float). T (finite z)) (counted-first h).value h)).0

    walked-levels : Walked w.tail w.positions (least_count w) (w.first_prev (least_count w)) (least_levels w)
    unfolding least_levels
    walked-levels = walked w.tail w.positions (least_count w) (w.first_prev (least_count w)) S.priced (S.firsts (least_count w)) best-finite

    answer-count : count_of w (least_levels w) ≡ least_count w
    unfolding count_of
    answer-count = walked-levels.count

    answer-costs : whole_cost w (least_levels w) ≡ least_total w
    unfolding whole_cost total
    answer-costs =
        ap (λ (n : ℕ). add binary32 (cost_of w.tail w.positions (w.first_prev n) (least_levels w)) (w.count_cost n)) answer-count
        ∙ ap (λ (x : Float). add binary32 x (w.count_cost (least_count w))) walked-levels.costs
        ∙ sym (counted-first h).value

    -- a smaller count stood earlier among those tried, so its least is dearer
    answer-smallest : (cs : List ℤ) → Banded w cs → count_of w cs < least_count w → T (lt (least_total w) (whole_cost w cs))
    answer-smallest cs B l =
        let f = counted-first h in
        let m = counted cs B in
        let k = count_of w cs in
        Order.lt-le-trans (least_total w) (total w k) (whole_cost w cs) least_total-cost (total-cost k m) (whole-cost cs B)
        (subst⁻¹ (λ (z : Float). T (lt z (total w k))) f.value (f.earlier k (smaller_before w.fewest w.width (least_count w) f.before f.after f.split k m l)))
        (total-less cs B)

    pub answer : Answer w
    answer = record {
      banded = record { choice = walked-levels.choice; band = walked-levels.band };
      count = answer-count;
      costs = answer-costs;
      least = whole-less;
      smallest = answer-smallest;
    }

  -- ---- infinite exactly where every choice in the band is
  pub whole-infinite : (least_total w ≡ inf false) ↔ ((cs : List ℤ) → Banded w cs → whole_cost w cs ≡ inf false)
  whole-infinite = (λ e cs B. Order.inf-le (whole_cost w cs) (whole-cost cs B) (subst (λ (z : Float). T (le z (whole_cost w cs))) e (whole-less cs B)), λ h. go (finite (least_total w)) answer (Order.infinite (least_total w) least_total-cost) h)
    where
      go : (b : Bool) → (T b → Answer w) → (T (not b) → least_total w ≡ inf false) → ((cs : List ℤ) → Banded w cs → whole_cost w cs ≡ inf false) → least_total w ≡ inf false
      go true a n h = sym (a tt).costs ∙ h (least_levels w) (a tt).banded
      go false a n h = n tt
