-- A row as the code has it: its room, and what filling it leaves.
use Rattle.std.specs.Prelude.{ℕ, ◌+◌, ◌-◌, ◌*◌, ◌<◌, ◌≡◌, List, length, Float}
use Rattle.half_bytes.specs.Packed.{unpacked}
use Rattle.prices.specs.Contents.{contents}
use Rattle.trellis_row.specs.Row.{RowIs, Elsewhere}
use Rattle.trellis_row.specs.declared.work.Row.{Row}

-- there is room for the row's states: a cost each, and half a byte each from the row's first byte on
pub record Fits (row : Row) (current : List Float) (choices : List ℕ) : Type 0 where
  pub costs : 2 * (row.most - row.least) + 1 < length current
  pub halves : 2 * row.at + 2 * (row.most - row.least) + 1 < length (unpacked choices)

-- the row's first n states are there
abbrev pub Begun : Row → ℕ → List Float → List ℕ → Type 0
Begun row n current choices =
    RowIs (contents row.book.now) row.place row.candidates.levels.now row.next.now row.span row.least (2 * row.at) n current (unpacked choices)

-- all of them are, and no choice of another row changed
pub record Filled (row : Row) (current current' : List Float) (choices choices' : List ℕ) : Type 0 where
  pub size : length current' ≡ length current
  pub elsewhere : Elsewhere (2 * row.at) (2 * (row.most + 1 - row.least)) (unpacked choices) (unpacked choices')
  pub row_is : Begun row (2 * (row.most + 1 - row.least)) current' choices'
