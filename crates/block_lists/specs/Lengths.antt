-- A book's lists are no longer than the arrays that hold them. Assumes nothing.
use Rattle.std.specs.Prelude.{◌≤◌}
use Rattle.block_file.specs.declared.record.BookRecord.{BookRecord}
use Rattle.block_lists.specs.declared.BookLengths.{BookLengths}

pub record BookHeld (l : BookLengths) : Type 0 where
  pub map : l.map ≤ 14912
  pub configs : l.configs ≤ 774
  pub symbols : l.symbols ≤ 33024
  pub ready : l.ready ≤ 66048

-- those of a record
abbrev pub lengths_in : BookRecord → BookLengths
lengths_in r = record { clusters = r.clusters; map = r.map.count; configs = r.configs.count; symbols = r.symbols.count; ready = r.ready.count }
