-- A table of prices, as bit patterns.
use Rattle.std.specs.Prelude.{ℕ, ◌<◌, ◌≡◌, List, get_or}
use Rattle.std.specs.Float.Ieee.{to_bits}
use Rattle.std.specs.Float.{binary32}
use Rattle.ans_prices.specs.Ans.{ans_price}

-- each of the 4,097 entries is the routine's
pub record PriceTable (table : List ℕ) : Type 0 where
  pub each : (f : ℕ) → f < 4097 → get_or table f 0 ≡ to_bits binary32 (ans_price f)
