use Rattle.std.proofs.Common.{◌≡◌, ◌*◌}
use Rattle.book_build.specs.Paint.{paint}
use Rattle.book_build.specs.Prefix.{prefix_of, prefix_entry}
use Rattle.book_build.proofs.write_rows.Given as given

abbrev pub invariant-loop-k : given.invariant-loop-k
invariant-loop-k l = l.symbols ≡ paint (prefix_entry (prefix_of l.clusters l.depths l.singles l.strict)) 0 (128 * l.k) l.initial.symbols
