use Rattle.std.proofs.Common.{◌≡◌, sym, Err, arith}
use Rattle.group_cells.proofs.Grid.{grid-none}
use Rattle.refusals.proofs.Numbers.{number_positive}
use Rattle.group_calls.proofs.Ending.{passes, refused-by-book, refused-by-list, ran}
use Rattle.group_calls.proofs.Telling.{refused-of, passed-of}
use Rattle.group_calls.proofs.rdoq_group.Goals as goal

pub returns-in_err-book-clause-outcome : goal.returns-in_err-book-clause-outcome
returns-in_err-book-clause-outcome c =
    let stopped = c.in_err-book.field-0.0 in
    let told : c.from_residual.result ≡ Err stopped = grind arith in
    let refused = refused-of c.checked_book.result stopped c.in_err-book.ensures.cases in
    let number = rw refused.0 at c.checked_book.ensures in
    rw (told, refused.1) (refused-by-book _ _ _ _ _ _ number (λ none. omega (arith, number_positive stopped.refusal, none)))

pub returns-in_err-map_err-clause-outcome : goal.returns-in_err-map_err-clause-outcome
returns-in_err-map_err-clause-outcome c =
    let stopped = c.in_err-map_err.field-0.0 in
    let told : c.from_residual-in_err-map_err.result ≡ Err stopped = grind arith in
    let refused = refused-of c.check_list.result stopped c.in_err-map_err.ensures.cases in
    let book = rw (passed-of c.checked_book.result _ c.in_ok-book.ensures.cases) at c.checked_book.ensures in
    let number = rw refused.0 at c.check_list.ensures in
    rw (told, refused.1) (refused-by-list _ _ _ _ _ _ (passes book c.in_ok-book.book.passed) number (λ none. omega (arith, number_positive stopped.refusal, none)))

pub run_list-requires : goal.run_list-requires
run_list-requires c =
    let passed = rw (passed-of c.check_list.result _ c.in_ok-map_err.ensures.cases) at c.check_list.ensures in
    record { passed = sym passed; grid = grid-none }

pub returns-clause-outcome : goal.returns-clause-outcome
returns-clause-outcome c =
    let book = rw (passed-of c.checked_book.result _ c.in_ok-book.ensures.cases) at c.checked_book.ensures in
    let passed = rw (passed-of c.check_list.result _ c.in_ok-map_err.ensures.cases) at c.check_list.ensures in
    ran _ _ _ _ _ _ (passes book c.in_ok-book.book.passed) (sym passed) book c.run_list.ensures.ran
