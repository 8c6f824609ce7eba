-- The cost of the input's levels, from the window's end to its first position. Assumes nothing.
use mathlib.Core.Path.{◌≡◌, refl, sym, ap, ◌∙◌}
use Prim.Native.Nat.{ℕ, zero, suc, ◌+◌, ◌-◌, ◌*◌, ◌≤◌, ◌<◌}
use native.Mathlib.Omega.{arith}
use native.Mathlib.Nat.{add-zero, not-suc-le-zero, le_of_suc-le-suc}
use lib.Ieee.{Float, add, binary32}
use Rattle.block.specs.Band.{half_width, position_at, positions_from, past_window, tail_of, problem_of}
use Rattle.block.specs.Block.{Block, covered, input_at, input_from, input_remaining}
use Rattle.block.specs.Choice.{window_levels}
use Rattle.block.specs.Cost.{local_cost, first_prev, count_cost}
use Rattle.block.specs.Answer.{Cost}
use Rattle.least_cost.specs.Choice.{remaining, cost_of}
use Rattle.least_cost.specs.Position.{Tail, nz}
use Rattle.least_cost.specs.Search.{count_of, whole_cost}
use Rattle.prices.specs.Book.{Book}
use Rattle.problem.proofs.Input.{input-count}
use Rattle.search_checks.specs.Start.{Starts}
use Rattle.search_checks.specs.declared.start.Start.{Start}
use Rattle.weights.specs.declared.Window.{Window}
use Rattle.input_cost.specs.Input.{input_cost}
use Rattle.input_cost.specs.Sum.{prev_at, cost_from, Summed}
use Rattle.input_cost.specs.declared.sum.Sum.{Sum}

-- ---- `prev`
pub prev-first : (b : Block) (i r : ℕ) → i ≡ 0 → first_prev b r ≡ prev_at b i r
unfolding prev_at
prev-first b i r e = rw e

pub prev-past : (b : Block) (i r : ℕ) → 0 < i → nz (input_at b (covered b + i - 1)) ≡ prev_at b i r
unfolding prev_at
prev-past b zero r h = absurd (not-suc-le-zero h)
prev-past b (suc i) r h =
    let same : covered b + suc i - 1 ≡ covered b + i = omega arith in
    rw same

module _ (v : Window) (book : Book) (b : Block) where
  -- ---- what follows the window
  cost-end : cost_from v book b v.length ≡ (tail_of v book b).cost (prev_at b v.length (past_window v b))
  unfolding cost_from cost_of positions_from past_window
  cost-end =
      let none : v.length - v.length ≡ 0 = omega arith in
      rw none

  by_two : (t : Tail) (p : ℕ) (x : Float) → p ≤ 1 → (p ≡ 0 → x ≡ t.cost 0) → (p ≡ 1 → x ≡ t.cost 1) → x ≡ t.cost p
  by_two t zero x h zero_is one_is = zero_is refl
  by_two t (suc zero) x h zero_is one_is = one_is refl
  by_two t (suc (suc p)) x h zero_is one_is = absurd (not-suc-le-zero (le_of_suc-le-suc h))

  pub summed-end : {s : Start} {p : ℕ} {x : Float} → Starts v book b s → p ≡ prev_at b v.length s.past → p ≤ 1 → (p ≡ 0 → x ≡ s.zero) × (p ≡ 1 → x ≡ s.one)
      → Summed v book b v.length (record { cost = x; remaining = s.past })
  unfolding past_window
  summed-end {s} {p} {x} S e few by =
      let found : x ≡ (tail_of v book b).cost p = by_two (tail_of v book b) p x few (λ z. by.0 z ∙ S.zero) (λ z. by.1 z ∙ S.one) in
      let prev : p ≡ prev_at b v.length (past_window v b) = e ∙ ap (prev_at b v.length) S.past_is in
      record { remaining_is = S.past_is; cost_is = found ∙ ap (tail_of v book b).cost prev ∙ sym cost-end }

  module _ (fits : covered b + v.length ≤ 64 * covered b) where
    -- ---- one position more
    cost-more : (i n : ℕ) → i + suc n ≡ v.length → (p : ℕ)
        → cost_of (tail_of v book b) (positions_from half_width v book b i (suc n)) p (input_from b (covered b + i) (suc n))
        ≡ add binary32 (local_cost book b i (input_remaining b (covered b + i)) p (input_at b (covered b + i)))
        (cost_of (tail_of v book b) (positions_from half_width v book b (suc i) n) (nz (input_at b (covered b + i))) (input_from b (covered b + suc i) n))
    unfolding cost_of positions_from position_at input_from tail_of
    cost-more i n e p =
        let count : remaining (past_window v b) (input_from b (covered b + i) (suc n)) ≡ input_remaining b (covered b + i) = input-count v b fits (covered b + i) (suc n) (omega arith) in
        let next : suc (covered b + i) ≡ covered b + suc i = omega arith in
        ap (λ (r : ℕ). add binary32 (local_cost book b i r p (input_at b (covered b + i))) (cost_of (tail_of v book b) (positions_from half_width v book b (suc i) n) (nz (input_at b (covered b + i))) (input_from b (suc (covered b + i)) n))) count
        ∙ ap (λ (k : ℕ). add binary32 (local_cost book b i (input_remaining b (covered b + i)) p (input_at b (covered b + i))) (cost_of (tail_of v book b) (positions_from half_width v book b (suc i) n) (nz (input_at b (covered b + i))) (input_from b k n))) next

    cost-here : (i : ℕ) → i < v.length
        → cost_from v book b i ≡ add binary32 (local_cost book b i (input_remaining b (covered b + i)) (prev_at b i (input_remaining b (covered b + i))) (input_at b (covered b + i))) (cost_from v book b (suc i))
    unfolding cost_from prev_at
    cost-here i h =
        let one : v.length - i ≡ suc (v.length - suc i) = omega arith in
        rw one (cost-more i (v.length - suc i) (omega arith) _)

    pub summed-more : (i : ℕ) → i < v.length → {p r : ℕ} {local after : Float} → r ≡ input_remaining b (covered b + i) → p ≡ prev_at b i r
        → local ≡ local_cost book b i r p (input_at b (covered b + i)) → after ≡ cost_from v book b (suc i) → Summed v book b i (record { cost = add binary32 local after; remaining = r })
    summed-more i h {p} {r} {local} {after} er ep el ea =
        record {
          remaining_is = er;
          cost_is =
              let step = cost-here i h in
              let prev : p ≡ prev_at b i (input_remaining b (covered b + i)) = ep ∙ ap (prev_at b i) er in
              cc;
        }

    -- ---- the whole
    pub cost-whole : input_cost v book b ≡ add binary32 (cost_from v book b 0) (count_cost book b (input_remaining b (covered b)))
    unfolding input_cost whole_cost window_levels problem_of count_of cost_from prev_at tail_of
    cost-whole =
        let count : remaining (past_window v b) (input_from b (covered b) v.length) ≡ input_remaining b (covered b) = input-count v b fits (covered b) v.length refl in
        let first : covered b + 0 ≡ covered b = add-zero (covered b) in
        let all : v.length - 0 ≡ v.length = omega arith in
        rw (first, count, all)

    pub summed-whole : {s : Sum} {counted : Float} → Summed v book b 0 s → counted ≡ count_cost book b s.remaining
        → Cost (add binary32 s.cost counted) s.remaining ≡ Cost (input_cost v book b) (input_remaining b (covered b))
    summed-whole {s} {counted} S e =
        let first : covered b + 0 ≡ covered b = add-zero (covered b) in
        let count : s.remaining ≡ input_remaining b (covered b) = S.remaining_is ∙ ap (input_remaining b) first in
        let found = S.cost_is in
        let whole = cost-whole in
        cc
