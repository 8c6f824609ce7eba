-- The zeros that a nonzero level has coded in front of it where none stands behind it.
use Rattle.std.specs.Prelude.{ℕ, zero, suc, ◌+◌, ◌≤◌, ◌<◌, false, cond, List, T, eqb, ℤ, pos, length, get_or, Float}
use Rattle.std.specs.Float.{fin, binary32}
use Rattle.std.specs.Float.Ieee.{add}
use Rattle.block.specs.Block.{Block, covered}
use Rattle.block.specs.Cost.{token_price}
use Rattle.candidates.specs.Candidates.{is_current}
use Rattle.least_cost.specs.Position.{nz}
use Rattle.prices.specs.Book.{Book}
use Rattle.scan.specs.Scan.{level_at}

-- 0.0
abbrev pub none : Float
none = fin false 0 (pos 0)

-- where the zeros begin that stand right in front of window position i; i itself where there are none
unfoldable pub run_start : List ℕ → List ℤ → ℕ → ℕ → ℕ
run_start scan levels c zero = 0
run_start scan levels c (suc i) = cond (eqb (nz (level_at scan levels (c + i))) 0) (run_start scan levels c i) (suc i)

-- The tokens of n zeros from window position j on, in front of the last nonzero level, added to `sum` one by one, front to back.
unfoldable pub zeros_from : Book → Block → ℕ → ℕ → ℕ → Float → Float
zeros_from book b zero j prev sum = sum
zeros_from book b (suc n) j prev sum = zeros_from book b n (suc j) 0 (add binary32 sum (token_price book b 1 (covered b + j) prev (pos 0)))

-- the levels at scan positions c to c + i - 1 can be read, and lie within ±32,767
pub record Windowed (c i : ℕ) (scan : List ℕ) (levels : List ℤ) : Type 0 where
  pub some : 1 ≤ c
  pub most : c + i ≤ 65536
  pub long : c + i ≤ length scan
  pub within : (k : ℕ) → k < length scan → get_or scan k 0 < length levels
  pub level : (k : ℕ) → c ≤ k → k < c + i → T (is_current (level_at scan levels k))
