use Rattle.std.proofs.Common.{sym}
use Rattle.prices.proofs.Passed.{by-lists, listed-passed}
use Rattle.book_checks.proofs.checked_book.Goals as goal

pub invariant_of-result : goal.invariant_of-result
invariant_of-result c = record { passed = listed-passed _ (sym c.in_ok-check_book.ensures) }

pub returns : goal.returns
returns c = sym (by-lists _ (sym c.in_ok-check_book.ensures))
