-- Books, blocks and windows that are small enough to be worked through, and a search's answer as one record. Definitions only.
use Rattle.std.specs.Prelude.{ℕ, ◌-◌, false, List, [], ◌∷◌, ◌++◌, map, ℤ, pos, negsuc, length, replicate, Float}
use Rattle.std.specs.Float.{inf, fin, binary32}
use Rattle.std.specs.Float.Ieee.{of_int}
use Rattle.bias.specs.Level.{numerator0145}
use Rattle.block.specs.Block.{Block, block_of}
use Rattle.least_cost.specs.Search.{Problem, up_from, least_total, least_count, least_levels}
use Rattle.prices.specs.Book.{Book, book_of, cluster_price}
use Rattle.weights.specs.declared.Window.{Window}

-- ---- what is answered: the least cost, the count and the levels of the window

pub record Answer : Type 0 where
  pub cost : Float
  pub count : ℕ
  pub levels : List ℤ

abbrev pub answered : Float → ℕ → List ℤ → Answer
answered cost count levels = record { cost = cost; count = count; levels = levels }

unfoldable pub answer_of : Problem → Answer
answer_of p = answered (least_total p) (least_count p) (least_levels p)

-- ---- floats: whole numbers, 1/4 and so on, infinity

abbrev pub whole : ℕ → Float
whole n = of_int binary32 (pos n)

abbrev pub quarter : Float
quarter = fin false 1 (negsuc 1)

abbrev pub half : Float
half = fin false 1 (negsuc 0)

abbrev pub never : Float
never = inf false

-- ---- windows of n positions, the first m of them restoring

abbrev pub window : ℕ → ℕ → Window
window n m = record { length = n; restoring = m }

-- ---- books under split 4,2,0

-- one cluster for every context, every symbol at price x
unfoldable pub flat : Float → Book
flat x = book_of 1 [] (4 ∷ 2 ∷ 0 ∷ []) (replicate 128 x) []

-- the same as a book that passes document 01's checks
unfoldable pub checked : Float → Book
checked x =
    book_of 1 (replicate 14850 0) (4 ∷ 2 ∷ 0 ∷ []) (replicate 128 x) (map (cluster_price (4 ∷ 2 ∷ 0 ∷ []) (replicate 128 x) 0) (up_from 0 256))

-- the contexts of `clusters` that say 1 have the prices of `other`, all others price x for every symbol
unfoldable pub apart : List ℕ → Float → List Float → Book
apart clusters x other = book_of 2 clusters (4 ∷ 2 ∷ 0 ∷ 4 ∷ 2 ∷ 0 ∷ []) (replicate 128 x ++ other) []

-- ---- blocks

-- One covered block of luma: scan in the order of the block, penalty and weights 1, `one` 1, lambda x. The ideals and levels are those of scan positions 1 on;
-- where the lists end they are 0.
unfoldable pub block_with : Float → List Float → List ℤ → Block
block_with x ideals levels =
    block_of (record { cx = 1; cy = 1; strategy = 0; channel = 1; qf_hi = false; predicted = 0 })
    (record { channel_weight = whole 1; lambda = x; penalty = whole 1; distance = whole 1 })
    (record { one = whole 1; numerator = numerator0145 })
    (whole 1)
    (up_from 0 64)
    (whole 0 ∷ ideals ++ replicate (63 - length ideals) (whole 0))
    (replicate 64 (whole 1))
    (pos 0 ∷ levels ++ replicate (63 - length levels) (pos 0))

-- all zero, lambda 3
unfoldable pub zeros : Block
zeros = block_with (whole 3) [] []
