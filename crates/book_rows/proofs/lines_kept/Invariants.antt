use Rattle.std.proofs.Common.{◌≡◌, true, ◌+◌, ◌*◌, ◌%◌}
use Rattle.prices.specs.Checks.{each}
use Rattle.book_rows.specs.Row.{line_four}
use Rattle.book_rows.proofs.lines_kept.Given as given

abbrev pub invariant-loop-i : given.invariant-loop-i
invariant-loop-i l = each l.i (λ j. line_four l.symbols l.ready (l.from + 4 * (j % l.lines)) (l.to + 4 * j) l.extra) ≡ true
