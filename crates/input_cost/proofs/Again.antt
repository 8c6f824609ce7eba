-- Levels that the trellis wrote cost as an input what it answered, where it charged each of them at lambda. Assumes nothing.
use mathlib.Core.Path.{◌≡◌, refl, sym, ap, ◌∙◌, subst⁻¹}
use mathlib.Core.Bool.{false, cond, ◌&&◌}
use mathlib.Core.List.{List}
use Prim.Native.Nat.{ℕ, zero, suc, ◌+◌, ◌-◌, ◌*◌, ◌≤◌, ◌<◌}
use native.Mathlib.Omega.{arith}
use lib.Dec.{eqb}
use lib.IntN.{ℤ, pos, negsuc}
use lib.Ieee.{Float, fin, add, mul, binary32}
use Rattle.block.specs.Band.{half_width, position_at, positions_from, past_window, tail_of, problem_of}
use Rattle.block.specs.Block.{Block, with_levels, covered, context_of, ideal, input_at, input_from, input_remaining, nonzeros_among}
use Rattle.block.specs.Choice.{window_levels}
use Rattle.block.specs.Cost.{distortion, rate, token_price, local_cost, tokens_from, tail_cost, first_prev, count_cost}
use Rattle.least_cost.specs.Choice.{remaining, cost_of}
use Rattle.least_cost.specs.Position.{nz}
use Rattle.least_cost.specs.Search.{count_of, whole_cost}
use Rattle.prices.specs.Book.{Book}
use Rattle.weights.specs.Settings.{restore_rate}
use Rattle.weights.specs.declared.Window.{Window}
use Rattle.input_cost.specs.Input.{input_cost}

-- a level is not restored where the input has it
own-rate : (b : Block) (i : ℕ) → rate b i (input_at b (covered b + i)) ≡ b.settings.lambda
unfolding rate nz
own-rate b i = go (input_at b (covered b + i))
  where
    go : (q : ℤ) → cond (eqb (nz q) 0 && eqb (nz q) 1) (restore_rate b.settings) b.settings.lambda ≡ b.settings.lambda
    go (pos zero) = refl
    go (pos (suc n)) = refl
    go (negsuc n) = refl

module _ (v : Window) (book : Book) (b : Block) (before : List ℤ) where
  -- from scan position k on, n levels are the same
  abbrev Same : ℕ → ℕ → Type 0
  Same k n = (j : ℕ) → k ≤ j → j < k + n → input_at (with_levels b before) j ≡ input_at b j

  first : (k n : ℕ) → Same k (suc n) → input_at (with_levels b before) k ≡ input_at b k
  first k n s = s k (omega arith) (omega arith)

  later : (k n : ℕ) → Same k (suc n) → Same (suc k) n
  later k n s j l m = s j (omega arith) (omega arith)

  same_count : (n k : ℕ) → Same k n → nonzeros_among b.scan before k n ≡ nonzeros_among b.scan b.levels k n
  unfolding nonzeros_among input_at
  same_count zero k s = refl
  same_count (suc n) k s =
      ap (λ (q : ℤ). nz q + nonzeros_among b.scan before (suc k) n) (first k n s) ∙ ap (λ (m : ℕ). nz (input_at b k) + m) (same_count n (suc k) (later k n s))

  same-tokens : (n r k p : ℕ) (sum : Float) → Same k n → tokens_from book (with_levels b before) n r k p sum ≡ tokens_from book b n r k p sum
  unfolding tokens_from token_price context_of covered
  same-tokens zero r k p sum s = refl
  same-tokens (suc n) r k p sum s =
      ap (λ (q : ℤ). cond (eqb r 0) sum (tokens_from book (with_levels b before) n (r - nz q) (suc k) (nz q) (add binary32 sum (mul binary32 b.settings.lambda (token_price book b r k p q))))) (first k n s)
      ∙ ap (λ (x : Float). cond (eqb r 0) sum x) (same-tokens n _ (suc k) _ _ (later k n s))

  -- ---- past the window
  module _ (past : Same (covered b + v.length) (64 * covered b - (covered b + v.length))) where
    same-past : past_window v (with_levels b before) ≡ past_window v b
    unfolding past_window input_remaining covered
    same-past = same_count _ _ past

    same-tail : (p : ℕ) → tail_cost book (with_levels b before) v.length p ≡ tail_cost book b v.length p
    unfolding tail_cost input_remaining covered
    same-tail p =
        ap (λ (r : ℕ). tokens_from book (with_levels b before) (64 * covered b - (covered b + v.length)) r (covered b + v.length) p (fin false 0 (pos 0))) (same_count _ _ past)
        ∙ same-tokens _ _ _ p _ past

    -- ---- in the window
    module _ (charged : (i : ℕ) → i < v.length → rate (with_levels b before) i (input_at b (covered b + i)) ≡ b.settings.lambda) where
      same-local : (i r p : ℕ) → i < v.length → local_cost book (with_levels b before) i r p (input_at b (covered b + i)) ≡ local_cost book b i r p (input_at b (covered b + i))
      unfolding local_cost distortion token_price context_of covered ideal
      same-local i r p h =
          let q : ℤ = input_at b (covered b + i) in
          ap (λ (x : Float). cond (eqb r 0) (distortion b i q) (add binary32 (distortion b i q) (mul binary32 x (token_price book b r (covered b + i) p q)))) (charged i h ∙ sym (own-rate b i))

      same-cost : (w n i k p : ℕ) → i + n ≡ v.length → k ≡ covered b + i
          → cost_of (tail_of v book (with_levels b before)) (positions_from w v book (with_levels b before) i n) p (input_from b k n) ≡ cost_of (tail_of v book b) (positions_from half_width v book b i n) p (input_from b k n)
      unfolding cost_of positions_from position_at input_from tail_of
      same-cost w zero i k p e f = same-tail p
      same-cost w (suc n) i k p e f =
          let rest = same-cost w n (suc i) (suc k) (nz (input_at b k)) (omega arith) (omega arith) in
          let count : remaining (past_window v (with_levels b before)) (input_from b k (suc n)) ≡ remaining (past_window v b) (input_from b k (suc n)) = ap (λ (s : ℕ). remaining s (input_from b k (suc n))) same-past in
          let here : local_cost book (with_levels b before) i (remaining (past_window v b) (input_from b k (suc n))) p (input_at b k) ≡ local_cost book b i (remaining (past_window v b) (input_from b k (suc n))) p (input_at b k)
          = subst⁻¹ (λ (j : ℕ). local_cost book (with_levels b before) i (remaining (past_window v b) (input_from b k (suc n))) p (input_at b j) ≡ local_cost book b i (remaining (past_window v b) (input_from b k (suc n))) p (input_at b j)) f (same-local i _ p (omega arith)) in
          let after : Float = cost_of (tail_of v book (with_levels b before)) (positions_from w v book (with_levels b before) (suc i) n) (nz (input_at b k)) (input_from b (suc k) n) in
          ap (λ (r : ℕ). add binary32 (local_cost book (with_levels b before) i r p (input_at b k)) after) count
          ∙ ap (λ (x : Float). add binary32 x after) here
          ∙ ap (add binary32 (local_cost book b i (remaining (past_window v b) (input_from b k (suc n))) p (input_at b k))) rest

      -- ---- the whole
      pub same_whole : (w : ℕ) → whole_cost (problem_of w v book (with_levels b before)) (window_levels v b b.levels) ≡ input_cost v book b
      unfolding input_cost whole_cost window_levels problem_of count_of tail_of first_prev count_cost context_of covered
      same_whole w =
          ap (λ (s : ℕ). add binary32 (cost_of (tail_of v book (with_levels b before)) (positions_from w v book (with_levels b before) 0 v.length) (first_prev b (remaining s (input_from b (covered b) v.length))) (input_from b (covered b) v.length)) (count_cost book b (remaining s (input_from b (covered b) v.length)))) same-past
          ∙ ap (λ (x : Float). add binary32 x (count_cost book b (remaining (past_window v b) (input_from b (covered b) v.length)))) (same-cost w v.length 0 (covered b) _ (omega arith) (omega arith))
