-- The search problem of a block that passes its checks, with a book that passes its own, is sound, and no sum of it overflows: the whole cost has at most 64,513 terms,
-- each +infinity or at most 2 ^ 45. Assumes nothing.
use mathlib.Core.Path.{◌≡◌, refl, ap}
use mathlib.Core.Bool.{Bool, true, false, cond}
use mathlib.Core.List.{List, []}
use Prim.Native.Nat.{ℕ, zero, suc, ◌+◌, ◌-◌, ◌*◌, ◌/◌, ◌^◌, ◌≤◌, ◌<◌, max, min}
use native.Mathlib.Nat.{le_refl, le_trans, min-le_left, le-min, max-le, lt_of_le_of_lt, mul-le-mul_right}
use native.Mathlib.Omega.{arith}
use lib.Dec.{T, eqb, leb, lit<, lit≤}
use lib.IntN.{ℤ, pos}
use lib.ListN.{length}
use lib.Ieee.{Float, fin, binary32, add, mul}
use Rattle.block.specs.Block.{Block, covered, input_at, nonzeros_among, input_remaining}
use Rattle.block.specs.Cost.{token_price, tokens_from, tail_cost, first_prev, count_cost}
use Rattle.block.specs.Band.{input_after, position_at, positions_from, past_window, tail_of, fewest_count, most_count, problem_of}
use Rattle.block_checks.specs.Passed.{Passed}
use Rattle.costs.specs.Cost.{bounded, capped}
use Rattle.costs.proofs.Bound.{capped-cost, capped-more, add-capped}
use Rattle.least_cost.specs.Position.{nz}
use Rattle.least_cost.specs.Choice.{remaining, in_band}
use Rattle.least_cost.specs.Search.{count_of, Banded}
use Rattle.least_cost.proofs.Trial.{nz-le}
use Rattle.least_cost.proofs.Best.{AllPriced}
use Rattle.least_cost.proofs.Counts.{Between}
use Rattle.least_cost.proofs.Range.{Reach, choice-reach, choice-near}
use Rattle.least_cost.proofs.Whole.{Sound}
use Rattle.least_cost.proofs.Infinite.{Room, OneCapped, AllCapped, none-capped, more-capped, capped-priced, Capped}
use Rattle.prices.specs.Book.{Book}
use Rattle.prices.specs.Checks.{book_refusal}
use Rattle.scan.specs.Scan.{level_at}
use Rattle.weights.specs.declared.Window.{Window}
use Rattle.problem.specs.Tokens.{past_length}
use Rattle.problem.proofs.Local.{current-level, candidates-level, token-capped, local-capped, lambda-capped, count-capped}

-- ---- counts

pub among-most : (scan : List ℕ) (levels : List ℤ) (k n : ℕ) → nonzeros_among scan levels k n ≤ n
unfolding nonzeros_among
among-most scan levels k zero = le_refl 0
among-most scan levels k (suc n) = omega (arith, nz-le (level_at scan levels k), among-most scan levels (suc k) n)

pub past-most : (v : Window) (b : Block) → past_window v b ≤ past_length v b
unfolding past_window input_remaining past_length
past-most v b = among-most b.scan b.levels (covered b + v.length) (64 * covered b - (covered b + v.length))

pub positions-length : (w : ℕ) (v : Window) (book : Book) (b : Block) (i n : ℕ) → length (positions_from w v book b i n) ≡ n
unfolding positions_from
positions-length w v book b i zero = refl
positions-length w v book b i (suc n) = ap suc (positions-length w v book b (suc i) n)

-- ---- room for 65,536 terms

pub room : (m : ℕ) → m ≤ 65536 → Room 194 m
room m h =
    record {
      digits = lt_of_le_of_lt h (lit< {m = 65536} {n = 2 ^ 24} tt);
      under = lt_of_le_of_lt (mul-le-mul_right (2 ^ 194) h) (lit< {m = 65536 * 2 ^ 194} {n = 2 ^ 277} tt);
    }

pub zero-capped : T (capped binary32 0 194 (fin false 0 (pos 0)))
unfolding capped bounded
zero-capped = tt

grown : (m n : ℕ) (x : Float) → m ≤ n → T (capped binary32 m 194 x) → T (capped binary32 n 194 x)
grown m n x h = capped-more binary32 m 194 n 194 x (mul-le-mul_right (2 ^ 194) h)

-- what a state within reach counts fits behind its position
pub reach-fits : (v : Window) (b : Block) → covered b + v.length ≤ 64 * covered b → (i n r : ℕ) → i + n ≡ v.length → Reach (past_window v b) n r → r + (covered b + i) ≤ 64 * covered b
unfolding past_length
reach-fits v b fits i n r e R = omega (arith, R.most, past-most v b)

module _ (book : Book) (ok : book_refusal book ≡ 0) (v : Window) (b : Block) (P : Passed v b) where
  -- ---- the tail
  pub input-token : (r k prev : ℕ) → covered b ≤ k → k < 64 * covered b → T (capped binary32 1041 149 (token_price book b r k prev (input_at b k)))
  input-token r k prev l h = token-capped book ok v b P r k prev (input_at b k) (current-level (input_at b k) (P.current k l h))

  -- one token more
  pub sum-capped :
      (r k prev m : ℕ) (sum : Float) → covered b ≤ k → k < 64 * covered b → m + 1 ≤ 65536 → T (capped binary32 m 194 sum)
      → T (capped binary32 (m + 1) 194 (add binary32 sum (mul binary32 b.settings.lambda (token_price book b r k prev (input_at b k)))))
  sum-capped r k prev m sum l h few s =
      let R = room (m + 1) few in
      add-capped binary32 m 1 194 sum _ R.digits R.under s (lambda-capped book ok v b P _ (input-token r k prev l h))

  tokens-capped :
      (n r k prev m : ℕ) (sum : Float) → covered b ≤ k → k + n ≤ 64 * covered b → m + n ≤ 65536 → T (capped binary32 m 194 sum)
      → T (capped binary32 (m + n) 194 (tokens_from book b n r k prev sum))
  unfolding tokens_from
  tokens-capped zero r k prev m sum l h few s = grown m (m + 0) sum (omega arith) s
  tokens-capped (suc n) r k prev m sum l h few s =
      let more = sum-capped r k prev m sum l (omega arith) (omega arith) s in
      let q = input_at b k in
      let next = tokens-capped n (r - nz q) (suc k) (nz q) (m + 1) _ (omega arith) (omega arith) (omega arith) more in
      go (eqb r 0) _ (grown (m + 1 + n) (m + suc n) _ (omega arith) next)
    where
      go : (t : Bool) (x : Float) → T (capped binary32 (m + suc n) 194 x) → T (capped binary32 (m + suc n) 194 (cond t sum x))
      go true x d = grown m (m + suc n) sum (omega arith) s
      go false x d = d

  pub tail-capped : (prev : ℕ) → T (capped binary32 (past_length v b) 194 (tail_cost book b v.length prev))
  unfolding tail_cost past_length
  tail-capped prev =
      let few = P.most in
      let fits = P.window.fits in
      let k : ℕ = covered b + v.length in
      grown (0 + (64 * covered b - k)) (64 * covered b - k) _ (omega arith)
      (tokens-capped (64 * covered b - k) (input_remaining b k) k prev 0 (fin false 0 (pos 0)) (omega arith) (omega arith) (omega arith) zero-capped)

  module _ (w : ℕ) where
    -- ---- the positions
    one-capped : (i : ℕ) → i < v.length → OneCapped 194 (position_at w v book b i)
    unfolding position_at
    one-capped i h = record { prices = λ r p c few m a. local-capped book ok v b P i h c (candidates-level book ok v b P i h c m) r p }

    -- the last n positions, from i on
    pub all-capped : (n i : ℕ) → i + n ≤ v.length → AllCapped 194 (past_length v b) (tail_of v book b) (positions_from w v book b i n)
    unfolding positions_from tail_of
    all-capped zero i h = none-capped (λ p few. tail-capped p)
    all-capped (suc n) i h = more-capped (one-capped i (omega arith)) (all-capped n (suc i) (omega arith))

    pub all-priced : (n i : ℕ) → i + n ≤ v.length → AllPriced (tail_of v book b) (positions_from w v book b i n)
    all-priced n i h = capped-priced (all-capped n i h)

    positions-capped : AllCapped 194 (past_length v b) (tail_of v book b) (positions_from w v book b 0 v.length)
    positions-capped = all-capped v.length 0 (omega arith)

    -- ---- the counts
    tried-small : (n : ℕ) → Between (fewest_count w v b) (suc (most_count w v b) - fewest_count w v b) n → n ≤ 131071
    unfolding most_count past_length
    tried-small n t =
        let few = P.most in
        let fits = P.window.fits in
        omega (arith, t.from, t.under, past-most v b, min-le_left (past_window v b + v.length) (input_after b 0 + w + 1))

    counts-capped : (n : ℕ) → Between (fewest_count w v b) (suc (most_count w v b) - fewest_count w v b) n → T (capped binary32 1 194 (count_cost book b n))
    counts-capped n t = count-capped book ok v b P n (tried-small n t)

    first_small : (n : ℕ) → first_prev b n ≤ 1
    unfolding first_prev
    first_small n = go (leb n (64 * covered b / 16))
      where
        go : (t : Bool) → cond t 1 0 ≤ 1
        go true = lit≤ tt
        go false = lit≤ tt

    -- the first position's band
    pub first-near :
        (n : ℕ) (cs : List ℤ) → 1 ≤ n → T (in_band (past_window v b) (positions_from w v book b 0 n) cs)
        → (input_after b 0 - w ≤ remaining (past_window v b) cs) × (remaining (past_window v b) cs ≤ suc (input_after b 0 + w))
    unfolding positions_from position_at
    first-near zero cs h t = absurd (omega arith)
    first-near (suc n) cs h t =
        let near = choice-near (past_window v b) (position_at w v book b 0) (positions_from w v book b 1 n) cs t in
        (near.least, near.most)

    -- no choice in the band has a count that is not tried
    pub covers : (cs : List ℤ) → Banded (problem_of w v book b) cs → Between (fewest_count w v b) (suc (most_count w v b) - fewest_count w v b) (count_of (problem_of w v book b) cs)
    unfolding problem_of count_of fewest_count most_count tail_of
    covers cs B =
        let reach = choice-reach (past_window v b) B.choice in
        let near = first-near v.length cs P.window.some B.band in
        let r = remaining (past_window v b) cs in
        let long = positions-length w v book b 0 v.length in
        let low : max (past_window v b) (input_after b 0 - w) ≤ r = max-le reach.least near.0 in
        let high : r ≤ min (past_window v b + v.length) (input_after b 0 + w + 1) = le-min (omega (arith, reach.most)) (omega (arith, near.1)) in
        record { from = low; under = omega arith }

    pub count_small : (cs : List ℤ) → Banded (problem_of w v book b) cs → count_of (problem_of w v book b) cs ≤ 131071
    count_small cs B = tried-small (count_of (problem_of w v book b) cs) (covers cs B)

    pub sound : Sound (problem_of w v book b)
    unfolding problem_of
    sound =
        record {
          priced = capped-priced positions-capped;
          firsts = first_small;
          counts = λ n t. capped-cost binary32 1 194 (count_cost book b n) (counts-capped n t);
          covers = covers;
        }

    -- at most 64,513 terms
    pub in-room : suc (past_length v b + length (positions_from w v book b 0 v.length)) ≤ 64513
    unfolding past_length
    in-room =
        let few = P.most in
        let fits = P.window.fits in
        omega (arith, positions-length w v book b 0 v.length)

    pub capped-problem : Capped 194 (past_length v b) (problem_of w v book b)
    unfolding problem_of
    capped-problem = record { each = positions-capped; counts = counts-capped; room = room _ (le_trans in-room (lit≤ tt)) }
