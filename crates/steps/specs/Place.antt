-- All that prices a level at one window position, gathered in a record, and the costs in its terms. What a block gives for its position i is `place_of`.
use Rattle.std.specs.Prelude.{ℕ, ◌+◌, cond, eqb, ℤ, Float}
use Rattle.std.specs.Float.Ieee.{add, mul}
use Rattle.std.specs.Float.{binary32}
use Rattle.ac_context.specs.Contexts.{fine_zero_density_contexts_offset, zero_density_context}
use Rattle.bias.specs.Level.{biased}
use Rattle.block.specs.Block.{Block, covered, context_of, input_at, ideal}
use Rattle.block.specs.Cost.{distortion_of}
use Rattle.least_cost.specs.Position.{nz}
use Rattle.packing.specs.Signed.{pack_signed}
use Rattle.prices.specs.Book.{Book, price}
use Rattle.weights.specs.Settings.{weight_at, restore_rate}
use Rattle.weights.specs.Window.{base_len}
use Rattle.steps.specs.declared.Place.{Place}

unfoldable pub distortion_at : Place → ℤ → Float
distortion_at x q = distortion_of x.weight x.ideal (biased x.bias q)

unfoldable pub rate_at : Place → ℤ → Float
rate_at x q = cond (eqb (nz q) 0) x.lambda x.nonzero_rate

-- the context of the level's token where `remaining` nonzero levels stand from here on and `prev` is 0; with `prev` 1 it is the next one. 0 where there is no token.
unfoldable pub context_at : Place → ℕ → ℕ
context_at x remaining = cond (eqb remaining 0) 0 (x.offset + zero_density_context x.covered remaining x.k 0)

-- the rated price of the level's token, by its context
unfoldable pub rated_in : Book → Place → ℕ → ℕ → ℤ → Float
rated_in book x context prev q = mul binary32 (rate_at x q) (price book (context + prev) (pack_signed q))

-- the local cost by the token's context
unfoldable pub local_in : Book → Place → ℕ → ℕ → ℤ → Float
local_in book x context prev q =
    cond (eqb context 0) (distortion_at x q) (add binary32 (distortion_at x q) (rated_in book x context prev q))

-- the local cost by what remains
unfoldable pub local_at : Book → Place → ℕ → ℕ → ℤ → Float
local_at book x remaining prev q = local_in book x (context_at x remaining) prev q

-- the rate of a nonzero level at window position i
unfoldable pub nonzero_rate : Block → ℕ → Float
nonzero_rate b i = cond (eqb (nz (input_at b (covered b + i))) 0) (restore_rate b.settings) b.settings.lambda

unfoldable pub place_of : Block → ℕ → ℕ → Place
place_of b log2 i =
    record {
      k = covered b + i;
      covered = covered b;
      log2 = log2;
      offset = fine_zero_density_contexts_offset (context_of b);
      weight = weight_at b.settings b.shape.channel (base_len (covered b)) i;
      ideal = ideal b i;
      bias = b.bias;
      lambda = b.settings.lambda;
      nonzero_rate = nonzero_rate b i;
    }
