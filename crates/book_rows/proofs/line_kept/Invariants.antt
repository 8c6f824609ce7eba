use Rattle.std.proofs.Common.{◌≡◌, ◌≤◌, eqb}
use Rattle.prices.specs.Checks.{each}
use Rattle.book_rows.specs.Row.{line_kept}
use Rattle.book_rows.proofs.line_kept.Given as given

abbrev pub invariant-loop-i : given.invariant-loop-i
invariant-loop-i l = (l.bad ≤ l.i) × (each l.i (line_kept l.symbols l.ready l.from l.to l.extra) ≡ eqb l.bad 0)
