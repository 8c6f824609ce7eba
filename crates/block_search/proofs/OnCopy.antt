-- What a search promises of a copy it promises of what was copied. Assumes nothing.
use mathlib.Core.Path.{◌≡◌, subst}
use mathlib.Core.List.{List}
use Prim.Native.Nat.{ℕ}
use lib.Ieee.{Float}
use lib.IntN.{ℤ}
use Rattle.block.specs.Data.{block_with}
use Rattle.block.specs.declared.BlockData.{BlockData}
use Rattle.block.specs.Outcome.{Result, lent_of}
use Rattle.prices.specs.Book.{Book}
use Rattle.searches.specs.Outcome.{Promised}
use Rattle.searches.specs.declared.Search.{Search}

pub on-copy : {w : ℕ} {search : Search} {book : Book} (block : BlockData) {choices : List ℕ} {row_a row_b : List Float} {after : Result} (copy levels : List ℤ) → copy ≡ levels
    → Promised w search book (block_with block copy) (lent_of copy choices row_a row_b) after → Promised w search book (block_with block levels) (lent_of levels choices row_a row_b) after
on-copy {w} {search} {book} block {choices} {row_a} {row_b} {after} copy levels e =
    subst (λ (l : List ℤ). Promised w search book (block_with block l) (lent_of l choices row_a row_b) after) e
