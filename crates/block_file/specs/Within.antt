-- Where records and their lists lie. Assumes nothing.
use Rattle.std.specs.Prelude.{ℕ, ◌+◌, ◌*◌, ◌≤◌}
use Rattle.block_checks.specs.declared.RoomLengths.{RoomLengths}
use Rattle.block_file.specs.declared.record.BlockRecord.{BlockRecord}
use Rattle.block_file.specs.declared.record.BookRecord.{BookRecord}
use Rattle.block_file.specs.declared.record.Record.{Record}
use Rattle.block_file.specs.declared.record.Record.TheVariants.{Book, Block, Width}

-- the lists of a book's record lie within n bytes, and none is longer than may be
pub record BookInside (r : BookRecord) (n : ℕ) : Type 0 where
  pub head : 5 ≤ n
  pub map : r.map.start + r.map.count ≤ n
  pub few_map : r.map.count ≤ 14912
  pub configs : r.configs.start + r.configs.count ≤ n
  pub few_configs : r.configs.count ≤ 774
  pub symbols : r.symbols.start + 4 * r.symbols.count ≤ n
  pub few_symbols : r.symbols.count ≤ 33024
  pub ready : r.ready.start + 4 * r.ready.count ≤ n
  pub few_ready : r.ready.count ≤ 66048
  pub end : r.ready.end ≤ n

-- no room is longer than may be
pub record RoomsWithin (l : RoomLengths) : Type 0 where
  pub choices : l.choices ≤ 26688
  pub row_a : l.row_a ≤ 64
  pub row_b : l.row_b ≤ 64

-- the same of a block's record
pub record BlockInside (r : BlockRecord) (n : ℕ) : Type 0 where
  pub head : 53 ≤ n
  pub rooms : RoomsWithin r.rooms
  pub levels : r.levels.start + 4 * r.levels.count ≤ n
  pub few_levels : r.levels.count ≤ 65600
  pub scan : r.scan.start + 4 * r.scan.count ≤ n
  pub few_scan : r.scan.count ≤ 65600
  pub source : r.source.start + 4 * r.source.count ≤ n
  pub few_source : r.source.count ≤ 65600
  pub inverse : r.inverse.start + 4 * r.inverse.count ≤ n
  pub few_inverse : r.inverse.count ≤ 65600
  pub end : r.inverse.end ≤ n

-- a record lies within n bytes
abbrev pub RecordInside : Record → ℕ → Type 0
RecordInside (Book r) n = BookInside r n
RecordInside (Block r) n = BlockInside r n
RecordInside (Width w) n = 5 ≤ n

-- how many bytes it takes
abbrev pub length_of : Record → ℕ
length_of (Book r) = r.ready.end
length_of (Block r) = r.inverse.end
length_of (Width w) = 5
