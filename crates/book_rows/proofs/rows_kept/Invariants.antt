use Rattle.std.proofs.Common.{◌≡◌, true}
use Rattle.prices.specs.Checks.{each, row_kept}
use Rattle.book_rows.proofs.rows_kept.Given as given

abbrev pub invariant-loop-k : given.invariant-loop-k
invariant-loop-k l = each l.k (row_kept l.configs l.symbols l.ready) ≡ true
