-- What a search is given besides the price book, the window that it works on, and the levels that it may pick there.
use Rattle.std.specs.Prelude.{ℕ, zero, suc, ◌+◌, ◌-◌, ◌*◌, List, [], ◌∷◌, ltb, ℤ, get_or, Float}
use Rattle.std.specs.Float.{nan, binary32}
use Rattle.std.specs.Float.Ieee.{mul}
use Rattle.ac_context.specs.Contexts.{fine_block_context}
use Rattle.bias.specs.declared.DequantBias.{DequantBias}
use Rattle.candidates.specs.Candidates.{candidates_of}
use Rattle.least_cost.specs.Position.{nz}
use Rattle.scan.specs.Scan.{level_at}
use Rattle.weights.specs.declared.Settings.{Settings}
use Rattle.weights.specs.declared.Window.{Window}
use Rattle.block.specs.declared.Shape.{Shape}

-- A block as a search is lent it: its data, and its levels. Each may be anything.
pub record Block : Type 0 where
  pub shape : Shape
  pub settings : Settings
  pub bias : DequantBias
  pub scale : Float
  pub scan : List ℕ
  pub source : List Float
  pub inverse : List Float
  pub levels : List ℤ

-- the arguments of a search as one block
abbrev pub block_of : Shape → Settings → DequantBias → Float → List ℕ → List Float → List Float → List ℤ → Block
block_of shape settings bias scale scan source inverse levels =
    record { shape = shape; settings = settings; bias = bias; scale = scale; scan = scan; source = source; inverse = inverse; levels = levels }

-- a block with other levels
abbrev pub with_levels : Block → List ℤ → Block
with_levels b x = block_of b.shape b.settings b.bias b.scale b.scan b.source b.inverse x

-- c: the covered blocks
unfoldable pub covered : Block → ℕ
covered b = b.shape.cx * b.shape.cy

-- the block context, below 30
unfoldable pub context_of : Block → ℕ
context_of b = fine_block_context b.shape.channel b.shape.strategy b.shape.qf_hi

-- the input's level at scan position k
unfoldable pub input_at : Block → ℕ → ℤ
input_at b k = level_at b.scan b.levels k

-- n of the input's levels, from scan position k on
unfoldable pub input_from : Block → ℕ → ℕ → List ℤ
input_from b k zero = []
input_from b k (suc n) = input_at b k ∷ input_from b (suc k) n

-- nonzero levels among the n scan positions from k on
unfoldable pub nonzeros_among : List ℕ → List ℤ → ℕ → ℕ → ℕ
nonzeros_among scan levels k zero = 0
nonzeros_among scan levels k (suc n) = nz (level_at scan levels k) + nonzeros_among scan levels (suc k) n

-- nonzero input levels from scan position k to the end of the block
unfoldable pub input_remaining : Block → ℕ → ℕ
input_remaining b k = nonzeros_among b.scan b.levels k (64 * covered b - k)

-- The window (document 01) starts at scan position c. Its length and how many of its positions may be restored, the restoring prefix, are a record of
-- their own: `window_of c` is document 01's. A window position i is scan position c + i.

-- ideal (document 01) at scan position k: (source * inverse weight) * scale
unfoldable pub ideal_at : List ℕ → List Float → List Float → Float → ℕ → Float
ideal_at scan source inverse scale k =
    let at = get_or scan k 0 in
    mul binary32 (mul binary32 (get_or source at nan) (get_or inverse at nan)) scale

-- the ideal at window position i
unfoldable pub ideal : Block → ℕ → Float
ideal b i = ideal_at b.scan b.source b.inverse b.scale (covered b + i)

-- the candidates at window position i
unfoldable pub candidates_at : Window → Block → ℕ → List ℤ
candidates_at v b i = candidates_of (ideal b i) (input_at b (covered b + i)) (ltb i v.restoring)
