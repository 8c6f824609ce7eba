-- What the exported call returns, and what the caller's variables hold afterwards. Assumes nothing.
use Rattle.std.specs.Prelude.{ℕ, ◌≡◌, List, T, ℤ, Float}
use Rattle.std.specs.Float.Ieee.{le}
use Rattle.block.specs.Block.{Block, with_levels, covered}
use Rattle.block.specs.Outcome.{Lent}
use Rattle.block.specs.Answer.{Answer}
use Rattle.block.specs.Answer.{Cost}
use Rattle.costs.specs.Cost.{cost as is_cost}
use Rattle.input_cost.specs.Input.{input_refusal, input_answer, AtLambda}
use Rattle.prices.specs.Book.{Book}
use Rattle.trellis.specs.Outcome.{banded_outcome}
use Rattle.weights.specs.Window.{window_of}
use Rattle.c_answers.specs.Told.{answer_code, cost_after, count_after}

-- the code, and the caller's two variables
pub record Reply : Type 0 where
  pub code : ℕ
  pub cost : Float
  pub count : ℕ

abbrev pub reply_of : ℕ → Float → ℕ → Reply
reply_of code cost count = record { code = code; cost = cost; count = count }

-- an answer as it is told over the variables' old values
unfoldable pub told : Answer → Float → ℕ → Reply
told answer cost count = reply_of (answer_code answer) (cost_after answer cost) (count_after answer count)

-- What a call promises: `after` is its code and what it leaves in the variables.
pub record Promised (book : Book) (b : Block) (cost : Float) (count : ℕ) (after : Reply) : Type 0 where
  -- the code and the variables
  pub reply : after ≡ told (input_answer (window_of (covered b)) book b) cost count
  -- a cost told is no NaN and not below 0
  pub is_cost : after.code ≡ 0 → T (is_cost after.cost)
  -- where the trellis answers a cost, of whatever half-width and with whatever room, one that is no less is told
  pub never_less : (w : ℕ) (l : Lent) (x : Float) (n : ℕ) → (banded_outcome w (window_of (covered b)) book b l).answer ≡ Cost x n → (after.code ≡ 0) × T (le x after.cost)
  -- of levels that the trellis wrote the cost is told that it answered, where it charged each at lambda and they pass the checks (a level of 32,768 does not)
  pub again : (w : ℕ) (l : Lent) (before : List ℤ) (x : Float) (n : ℕ)
      → (banded_outcome w (window_of (covered b)) book (with_levels b before) l).answer ≡ Cost x n
      → (banded_outcome w (window_of (covered b)) book (with_levels b before) l).lent.levels ≡ b.levels
      → AtLambda (window_of (covered b)) b before → input_refusal (window_of (covered b)) book b ≡ 0 → after ≡ reply_of 0 x n
