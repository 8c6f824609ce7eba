use Rattle.std.proofs.Common.{◌≡◌, ◌*◌}
use Rattle.book_build.specs.Paint.{paint}
use Rattle.book_build.specs.Prefix.{row_entry}
use Rattle.book_build.proofs.write_row.Given as given

abbrev pub invariant-loop-j : given.invariant-loop-j
invariant-loop-j l = l.symbols ≡ paint (row_entry l.unseen l.single l.depths) (128 * l.cluster) l.j l.initial.symbols
