use Rattle.std.proofs.Common.{◌≡◌, true, ◌+◌, ◌*◌}
use Rattle.prices.specs.Checks.{each}
use Rattle.book_rows.specs.Row.{four_kept}
use Rattle.book_rows.proofs.turns_kept.Given as given

abbrev pub invariant-loop-i : given.invariant-loop-i
invariant-loop-i l = each l.i (λ j. four_kept l.ready (l.to + 4 * j) l.a l.b l.a l.b) ≡ true
