-- A block's numbers within what is lent for the whole list, and what one step over the list leaves.
use Rattle.std.specs.Prelude.{ℕ, ◌+◌, ◌≡◌, true, List, ◌∷◌, ◌++◌, ℤ, take, drop}
use Rattle.block.specs.Block.{Block, block_of}
use Rattle.block.specs.Outcome.{Result, result_of}
use Rattle.group_cells.specs.Cells.{Counted}
use Rattle.group_cells.specs.Grid.{Grid}
use Rattle.group_list.specs.Heads.{Head}
use Rattle.group_run.specs.Block.{Numbers, Room, size, shape_of, settings_of, bias_of, searched, settles, count_in}
use Rattle.prices.specs.Book.{Book}
use Rattle.searches.specs.declared.Search.{Search}

-- n numbers from `at` on
abbrev pub part : {A : Type 0} → ℕ → ℕ → List A → List A
part at n xs = take n (drop at xs)

-- what a search leaves of a block whose levels are n of the list's, from `at` on
abbrev pub in_place : ℕ → ℕ → List ℤ → Result → Result
in_place at n levels r = result_of r.answer (take at levels ++ (r.lent.levels ++ drop (at + n) levels)) r.lent.choices r.lent.row_a r.lent.row_b

-- the numbers from `at` on, the levels as they are now
abbrev pub numbers_from : Numbers → ℕ → List ℤ → Numbers
numbers_from g at levels = record { scans = drop at g.scans; sources = drop at g.sources; inverses = drop at g.inverses; levels = drop at levels }

-- a block as the code searches it: p the count predicted, n numbers from `at` on
abbrev pub block_from : Head → Numbers → ℕ → ℕ → ℕ → List ℤ → Block
block_from h g at n p levels = block_of (shape_of h p) (settings_of h) (bias_of h) h.scale (part at n g.scans) (part at n g.sources) (part at n g.inverses) (part at n levels)

-- A step over block h, whose numbers start at `at`, with cells that hold what the blocks settled so far wrote.
pub record Stepped (s : Search) (book : Book) (h : Head) (g : Numbers) (at : ℕ) (levels : List ℤ) (room : Room) (cells : List ℕ) (after : Result) (cells' : List ℕ) : Type 0 where
  -- the block is searched as the list's next, and its levels stand in their place
  pub found : (done : List Counted) → Grid done cells → after ≡ in_place at (size h) levels (searched s book done h (numbers_from g at levels) room)
  -- settled, it has written its cells
  pub wrote : (done : List Counted) → Grid done cells → settles after.answer ≡ true → Grid (record { head = h; count = count_in after.answer } ∷ done) cells'
