use Rattle.std.proofs.Common.{sym, ◌∙◌, arith}
use Rattle.prices.proofs.Passed.{sound, first-five}
use Rattle.book_rows.proofs.Steps.{sound-row}
use Rattle.refusals.proofs.Numbers.{number_positive}
use Rattle.book_checks.proofs.check_book.Goals as goal

pub returns-in_err-check_one_to_five : goal.returns-in_err-check_one_to_five
returns-in_err-check_one_to_five c =
    let number = c.in_err-check_one_to_five.ensures in
    let first = number ∙ sym (first-five _ (λ passes. omega (arith, number_positive c.in_err-check_one_to_five.field-0.0, number, passes))) in
    grind (arith, first)

pub rows_kept-requires : goal.rows_kept-requires
rows_kept-requires c = sound-row _ (sound _ (sym c.in_ok-check_one_to_five.ensures))
