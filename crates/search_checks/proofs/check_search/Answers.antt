use Rattle.std.proofs.Common.{◌≡◌, ◌∙◌, sym, Err, arith}
use Rattle.block_checks.proofs.Laws.{refused-book, refused-block}
use Rattle.prices.proofs.Held.{passed-view}
use Rattle.refusals.proofs.Numbers.{number_positive}
use Rattle.search_checks.proofs.check_search.Goals as goal

pub returns-in_err-book : goal.returns-in_err-book
returns-in_err-book c =
    let number = c.in_err-book.ensures in
    let told : c.from_residual.result ≡ Err c.in_err-book.field-0.0 = grind arith in
    rw told (number ∙ sym (refused-book _ _ _ _ _ (λ none. omega (arith, number_positive c.in_err-book.field-0.0, number, none))))

pub returns-in_err-check_block_and_room : goal.returns-in_err-check_block_and_room
returns-in_err-check_block_and_room c =
    let told : c.from_residual-in_err-check_block_and_room.result ≡ Err c.in_err-check_block_and_room.field-0.0 = grind arith in
    rw told (c.in_err-check_block_and_room.ensures ∙ sym (refused-block _ _ _ _ _ (passed-view c.in_ok-book.book c.in_ok-book.ensures)))

pub returns : goal.returns
returns c =
    let passes = passed-view c.in_ok-book.book c.in_ok-book.ensures in
    (c.in_ok-book.ensures, refused-block _ _ _ _ _ passes ∙ sym c.in_ok-check_block_and_room.ensures)
