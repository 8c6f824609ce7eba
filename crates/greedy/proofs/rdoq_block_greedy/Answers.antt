use Rattle.std.proofs.Common.{◌≡◌, sym, Err, arith}
use Rattle.block_checks.proofs.Laws.{passed}
use Rattle.refusals.proofs.Numbers.{number_positive}
use Rattle.search_checks.proofs.Refusing.{accepted-checked}
use Rattle.greedy.proofs.Choosing.{promised, whole}
use Rattle.greedy.proofs.Settling.{by-check, refused-outcome, let-pass}
use Rattle.greedy.proofs.rdoq_block_greedy.Goals as goal

pub returns-in_err-book : goal.returns-in_err-book
returns-in_err-book c =
    let told : c.from_residual.result ≡ Err c.in_err-book.field-0.0 = grind arith in
    let number = by-check _ _ _ _ c.in_err-book.ensures in
    rw told (whole (promised _ _ _ _ (passed _ 1024 _ (omega arith)) (refused-outcome _ _ _ _ number (λ none. omega (arith, number_positive c.in_err-book.field-0.0, none)))))

pub search_greedy-requires : goal.search_greedy-requires
search_greedy-requires c = accepted-checked _ 1024 _ _ _ c.in_ok-book.ensures.1 c.in_ok-book.ensures.0 (omega arith)

pub returns : goal.returns
returns c =
    let book = c.in_ok-book.ensures in
    let none = sym (by-check _ _ _ _ (sym book.1)) in
    whole (promised _ _ _ _ (passed _ 1024 _ (omega arith)) (let-pass _ _ _ _ none book.0 c.search_greedy.ensures))
