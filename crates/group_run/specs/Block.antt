-- What lies block after block, and a block of the list as the search gets it.
use Rattle.std.specs.Prelude.{ℕ, ◌*◌, min, Bool, true, false, not, cond, ◌&&◌, List, [], ◌∷◌, ◌++◌, eqb, leb, ℤ, length, take, drop, Float}
use Rattle.bias.specs.declared.DequantBias.{DequantBias}
use Rattle.block.specs.Block.{Block, block_of}
use Rattle.block.specs.Outcome.{Lent, Result, lent_of}
use Rattle.block.specs.Answer.{Answer}
use Rattle.block.specs.Answer.{Cost, Count, Refused}
use Rattle.block.specs.declared.Shape.{Shape}
use Rattle.group_cells.specs.Cells.{Counted, predicted}
use Rattle.group_list.specs.Heads.{Head, covered}
use Rattle.prices.specs.Book.{Book}
use Rattle.searches.specs.Outcome.{search_outcome}
use Rattle.searches.specs.declared.Search.{Search}
use Rattle.weights.specs.Window.{window_of}
use Rattle.weights.specs.declared.Settings.{Settings}

-- what is lent block after block
pub record Numbers : Type 0 where
  pub scans : List ℕ
  pub sources : List Float
  pub inverses : List Float
  pub levels : List ℤ

-- the working room
pub record Room : Type 0 where
  pub choices : List ℕ
  pub row_a : List Float
  pub row_b : List Float

abbrev pub room_of : Lent → Room
room_of l = record { choices = l.choices; row_a = l.row_a; row_b = l.row_b }

abbrev pub lent_with : List ℤ → Room → Lent
lent_with levels room = lent_of levels room.choices room.row_a room.row_b

-- how many numbers of each list are a block's
abbrev pub size : Head → ℕ
size h = 64 * covered h

-- 8: enough are left for the block
unfoldable pub enough : Head → Numbers → Bool
enough h g = leb (size h) (length g.scans) && (leb (size h) (length g.sources) && (leb (size h) (length g.inverses) && leb (size h) (length g.levels)))

-- what is left behind the block's
unfoldable pub rest : Head → Numbers → Numbers
rest h g = record { scans = drop (size h) g.scans; sources = drop (size h) g.sources; inverses = drop (size h) g.inverses; levels = drop (size h) g.levels }

-- A word is not narrowed before its check: any strategy above 255 is refused as 255 is.
abbrev pub shape_of : Head → ℕ → Shape
shape_of h count =
    record { cx = h.cx; cy = h.cy; strategy = min h.strategy 255; channel = h.channel; qf_hi = not (eqb h.quant 0); predicted = count }

abbrev pub settings_of : Head → Settings
settings_of h = record { channel_weight = h.weight; lambda = h.lambda; penalty = h.penalty; distance = h.distance }

abbrev pub bias_of : Head → DequantBias
bias_of h = record { one = h.one; numerator = h.numerator }

-- the block, with the count predicted from the blocks settled before it and the first of what is left of each list
unfoldable pub block_at : List Counted → Head → Numbers → Block
block_at done h g =
    block_of (shape_of h (predicted done h)) (settings_of h) (bias_of h) h.scale (take (size h) g.scans) (take (size h) g.sources) (take (size h) g.inverses) (take (size h) g.levels)

-- its search, with the half-width that the list gives it and document 01's window
unfoldable pub searched : Search → Book → List Counted → Head → Numbers → Room → Result
searched s book done h g room = search_outcome h.half_width (window_of (covered h)) s book (block_at done h g) (lent_with (take (size h) g.levels) room)

-- ---- a search's answer: whether it settles the block, the count or the refusal
unfoldable pub settles : Answer → Bool
settles (Cost cost count) = true
settles (Count count) = true
settles (Refused number) = false

unfoldable pub count_in : Answer → ℕ
count_in (Cost cost count) = count
count_in (Count count) = count
count_in (Refused number) = 0

unfoldable pub refusal_in : Answer → ℕ
refusal_in (Cost cost count) = 0
refusal_in (Count count) = 0
refusal_in (Refused number) = number

-- the numbers of the blocks of one channel alone
unfoldable pub numbers_of : ℕ → List Head → Numbers → Numbers
numbers_of channel [] g = record { scans = []; sources = []; inverses = []; levels = [] }
numbers_of channel (h ∷ hs) g =
    let later = numbers_of channel hs (rest h g) in
    cond (eqb channel h.channel)
    (record {
      scans = take (size h) g.scans ++ later.scans;
      sources = take (size h) g.sources ++ later.sources;
      inverses = take (size h) g.inverses ++ later.inverses;
      levels = take (size h) g.levels ++ later.levels;
    })
    later
