-- What level q costs at window position i, by what stands around it: the nonzero levels behind it and of all others, whether the level in front is nonzero, and the
-- price of the run.
use Rattle.std.specs.Prelude.{ℕ, ◌+◌, cond, eqb, ℤ, Float}
use Rattle.std.specs.Float.Ieee.{add, mul}
use Rattle.std.specs.Float.{binary32}
use Rattle.block.specs.Block.{Block, covered}
use Rattle.block.specs.Cost.{distortion, rate, token_price, first_prev, count_cost}
use Rattle.least_cost.specs.Position.{nz}
use Rattle.prices.specs.Book.{Book}
use Rattle.greedy_cost.specs.Run.{none}

unfoldable pub prev_of : Block → ℕ → ℕ → ℕ → ℕ
prev_of b i front count = cond (eqb i 0) (first_prev b count) front

-- the token's price, and with a nonzero level the run's; nothing where no nonzero level remains
unfoldable pub bits_of : Book → Block → ℕ → ℕ → ℕ → Float → ℤ → Float
bits_of book b i remaining prev run q =
    let token = token_price book b remaining (covered b + i) prev q in
    cond (eqb remaining 0) none (cond (eqb (nz q) 0) token (add binary32 token run))

-- (distortion + rate * bits) + what the count costs
unfoldable pub cost_of : Book → Block → ℕ → ℕ → ℕ → ℕ → Float → ℤ → Float
cost_of book b i later others front run q =
    let count = others + nz q in
    let bits = bits_of book b i (later + nz q) (prev_of b i front count) run q in
    add binary32 (add binary32 (distortion b i q) (mul binary32 (rate b i q) bits)) (count_cost book b count)
