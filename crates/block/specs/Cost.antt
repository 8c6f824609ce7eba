-- What a level costs where it stands. Every operation on floats is rounded once.
use Rattle.std.specs.Prelude.{ℕ, zero, suc, ◌+◌, ◌-◌, ◌*◌, ◌/◌, false, cond, ◌&&◌, eqb, leb, ℤ, pos, Float}
use Rattle.std.specs.Float.{fin, binary32}
use Rattle.std.specs.Float.Ieee.{add, sub, mul}
use Rattle.ac_context.specs.Contexts.{fine_non_zero_context, fine_zero_density_contexts_offset, zero_density_context}
use Rattle.bias.specs.Level.{biased}
use Rattle.least_cost.specs.Position.{nz}
use Rattle.packing.specs.Signed.{pack_signed}
use Rattle.prices.specs.Book.{Book, price}
use Rattle.weights.specs.Settings.{weight_at, restore_rate}
use Rattle.weights.specs.Window.{base_len}
use Rattle.block.specs.Block.{Block, covered, context_of, input_at, input_remaining, ideal}

-- distortion (document 01): weight * (ideal - biased level)²
unfoldable pub distortion_of : Float → Float → Float → Float
distortion_of weight ideal level =
    let off = sub binary32 ideal level in
    mul binary32 weight (mul binary32 off off)

-- of level q at window position i
unfoldable pub distortion : Block → ℕ → ℤ → Float
distortion b i q =
    distortion_of (weight_at b.settings b.shape.channel (base_len (covered b)) i) (ideal b i) (biased b.bias q)

-- rate (document 01): a nonzero level where the input has 0 is charged at lambda * penalty, all others at lambda
unfoldable pub rate : Block → ℕ → ℤ → Float
rate b i q =
    cond (eqb (nz (input_at b (covered b + i))) 0 && eqb (nz q) 1) (restore_rate b.settings) b.settings.lambda

-- the price of the token of level q at scan position k, where `remaining` nonzero levels stand from k on, and `prev` tells whether the level before is nonzero
unfoldable pub token_price : Book → Block → ℕ → ℕ → ℕ → ℤ → Float
token_price book b remaining k prev q =
    price book (fine_zero_density_contexts_offset (context_of b) + zero_density_context (covered b) remaining k prev) (pack_signed q)

-- local cost (document 01): distortion + rate * bits; remaining 0 costs no token
unfoldable pub local_cost : Book → Block → ℕ → ℕ → ℕ → ℤ → Float
local_cost book b i remaining prev q =
    cond (eqb remaining 0) (distortion b i q)
    (add binary32 (distortion b i q) (mul binary32 (rate b i q) (token_price book b remaining (covered b + i) prev q)))

-- The tokens of the input's levels from scan position k on, added to `sum` one by one, front to back, until nothing remains. n positions are left.
unfoldable pub tokens_from : Book → Block → ℕ → ℕ → ℕ → ℕ → Float → Float
tokens_from book b zero remaining k prev sum = sum
tokens_from book b (suc n) remaining k prev sum =
    let q = input_at b k in
    let next = tokens_from book b n (remaining - nz q) (suc k) (nz q) (add binary32 sum (mul binary32 b.settings.lambda (token_price book b remaining k prev q))) in
    cond (eqb remaining 0) sum next

-- the tail (document 01): what the levels past a window of length w cost, by the `prev` that the window ends with; it starts at 0.0
unfoldable pub tail_cost : Book → Block → ℕ → ℕ → Float
tail_cost book b w prev =
    let k = covered b + w in
    tokens_from book b (64 * covered b - k) (input_remaining b k) k prev (fin false 0 (pos 0))

-- `prev` at the first position: 1 exactly where the whole count is at most the block's length over 16
unfoldable pub first_prev : Block → ℕ → ℕ
first_prev b count = cond (leb count (64 * covered b / 16)) 1 0

-- what the whole count costs: lambda * its price
unfoldable pub count_cost : Book → Block → ℕ → Float
count_cost book b count =
    mul binary32 b.settings.lambda (price book (fine_non_zero_context b.shape.predicted (context_of b)) count)
