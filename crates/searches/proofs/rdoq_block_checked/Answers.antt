use Rattle.std.proofs.Common.{◌≡◌, refl, sym, Err, arith}
use Rattle.block_checks.proofs.Laws.{passed}
use Rattle.refusals.proofs.Numbers.{number_positive}
use Rattle.searches.proofs.Results.{by-check, refused-outcome, let-pass, searchable, promised}
use Rattle.searches.proofs.rdoq_block_checked.Goals as goal

pub check_block_and_room-requires : goal.check_block_and_room-requires
check_block_and_room-requires c = c.asked_by-asked.ensures.bytes_bound

pub returns-in_err-check_block_and_room-clause-outcome : goal.returns-in_err-check_block_and_room-clause-outcome
returns-in_err-check_block_and_room-clause-outcome c =
    let told : c.from_residual.result ≡ Err c.in_err-check_block_and_room.field-0.0 = grind arith in
    let number = by-check _ _ _ _ _ _ c.args.book.now.passed c.asked_by-asked.ensures.value c.lengths.ensures c.in_err-check_block_and_room.ensures in
    rw told (promised _ _ _ _ (λ n. passed n _ _ c.args.limits.some) _ refl _ (refused-outcome _ _ _ _ _ _ number (λ none. omega (arith, number_positive c.in_err-check_block_and_room.field-0.0, none))))

pub search_block-requires : goal.search_block-requires
search_block-requires c =
    searchable _ _ _ _ _ _ c.args.limits.some (sym (by-check _ _ _ _ _ _ c.args.book.now.passed c.asked_by-asked.ensures.value c.lengths.ensures c.in_ok-check_block_and_room.ensures))

pub returns-clause-outcome : goal.returns-clause-outcome
returns-clause-outcome c =
    let none = sym (by-check _ _ _ _ _ _ c.args.book.now.passed c.asked_by-asked.ensures.value c.lengths.ensures c.in_ok-check_block_and_room.ensures) in
    promised _ _ _ _ (λ n. passed n _ _ c.args.limits.some) _ refl _ (let-pass _ _ _ _ _ _ none c.search_block.ensures.outcome)
