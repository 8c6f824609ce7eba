-- The search problem of a block, for the theory of least cost: the window's positions with their candidates, local costs and band, the tail, and the counts.
-- The window and the half-width w of the band are parameters; document 01's are `window_of c` and 6.
use Rattle.std.specs.Prelude.{ℕ, zero, suc, ◌+◌, ◌-◌, max, min, List, [], ◌∷◌, ℤ}
use Rattle.least_cost.specs.Position.{Position, Tail}
use Rattle.least_cost.specs.Search.{Problem}
use Rattle.prices.specs.Book.{Book}
use Rattle.weights.specs.declared.Window.{Window}
use Rattle.block.specs.Block.{Block, covered, input_remaining, candidates_at}
use Rattle.block.specs.Cost.{local_cost, tail_cost, first_prev, count_cost}

-- document 01's half-width
abbrev pub half_width : ℕ
half_width = 6

-- the nonzero input levels after window position i
unfoldable pub input_after : Block → ℕ → ℕ
input_after b i = input_remaining b (covered b + i + 1)

-- The nonzero levels after a position may differ by w from the input's.
unfoldable pub position_at : ℕ → Window → Book → Block → ℕ → Position
position_at w v book b i =
    record {
      candidates = candidates_at v b i;
      low = input_after b i - w;
      high = input_after b i + w;
      price = local_cost book b i;
    }

-- n positions from i on
unfoldable pub positions_from : ℕ → Window → Book → Block → ℕ → ℕ → List Position
positions_from w v book b i zero = []
positions_from w v book b i (suc n) = position_at w v book b i ∷ positions_from w v book b (suc i) n

-- the nonzero levels past the window
unfoldable pub past_window : Window → Block → ℕ
past_window v b = input_remaining b (covered b + v.length)

unfoldable pub tail_of : Window → Book → Block → Tail
tail_of v book b = record { count = past_window v b; cost = tail_cost book b v.length }

-- the fewest and the most nonzero levels that a choice in the band can have
unfoldable pub fewest_count : ℕ → Window → Block → ℕ
fewest_count w v b = max (past_window v b) (input_after b 0 - w)

unfoldable pub most_count : ℕ → Window → Block → ℕ
most_count w v b = min (past_window v b + v.length) (input_after b 0 + w + 1)

unfoldable pub problem_of : ℕ → Window → Book → Block → Problem
problem_of w v book b =
    record {
      positions = positions_from w v book b 0 v.length;
      tail = tail_of v book b;
      first_prev = first_prev b;
      count_cost = count_cost book b;
      fewest = fewest_count w v b;
      width = suc (most_count w v b) - fewest_count w v b;
    }
