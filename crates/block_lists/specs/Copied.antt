-- What copying a record's lists leaves: each list at the front of its array, and every other array as it was.
use Rattle.std.specs.Prelude.{ℕ, List, ◌++◌, drop}
use Rattle.block_file.specs.Word.{word_at, float_at, level_at, bytes_from, entries_from}
use Rattle.block_file.specs.declared.record.BlockRecord.{BlockRecord}
use Rattle.block_file.specs.declared.record.BookRecord.{BookRecord}
use Rattle.block_lists.specs.declared.Lists.{Lists}

-- a book's lists, those of a block and the rooms staying
abbrev pub with_book : List ℕ → BookRecord → Lists → Lists
with_book bytes r l =
    record {
      map = bytes_from bytes r.map.start r.map.count ++ drop r.map.count l.map;
      configs = bytes_from bytes r.configs.start r.configs.count ++ drop r.configs.count l.configs;
      symbols = entries_from float_at bytes r.symbols.start r.symbols.count ++ drop r.symbols.count l.symbols;
      ready = entries_from float_at bytes r.ready.start r.ready.count ++ drop r.ready.count l.ready;
      levels = l.levels;
      scan = l.scan;
      source = l.source;
      inv_qm = l.inv_qm;
      work = l.work;
      choices = l.choices;
      row_a = l.row_a;
      row_b = l.row_b;
    }

-- a block's, those of a book and the rooms staying
abbrev pub with_block : List ℕ → BlockRecord → Lists → Lists
with_block bytes r l =
    record {
      map = l.map;
      configs = l.configs;
      symbols = l.symbols;
      ready = l.ready;
      levels = entries_from level_at bytes r.levels.start r.levels.count ++ drop r.levels.count l.levels;
      scan = entries_from word_at bytes r.scan.start r.scan.count ++ drop r.scan.count l.scan;
      source = entries_from float_at bytes r.source.start r.source.count ++ drop r.source.count l.source;
      inv_qm = entries_from float_at bytes r.inverse.start r.inverse.count ++ drop r.inverse.count l.inv_qm;
      work = l.work;
      choices = l.choices;
      row_a = l.row_a;
      row_b = l.row_b;
    }
