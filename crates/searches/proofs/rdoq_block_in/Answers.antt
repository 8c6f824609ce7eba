use Rattle.std.proofs.Common.{◌≡◌, refl, Err, arith}
use Rattle.block_checks.proofs.Laws.{passed}
use Rattle.refusals.proofs.Numbers.{number_positive}
use Rattle.refusals.specs.Numbers.{number_of}
use Rattle.searches.proofs.Results.{by-book, refused-outcome, promised, for-book}
use Rattle.searches.proofs.rdoq_block_in.Goals as goal

pub returns-in_err-book-clause-outcome : goal.returns-in_err-book-clause-outcome
returns-in_err-book-clause-outcome c =
    let refusal = c.in_err-book.field-0.0 in
    let told : c.from_residual.result ≡ Err refusal = grind arith in
    let some : number_of refusal ≡ 0 → ⊥ = λ none. omega (arith, number_positive refusal, none) in
    rw told (promised _ _ _ _ (λ n. passed n _ _ c.args.limits.some) _ refl _ (refused-outcome _ _ _ _ _ _ (by-book _ _ _ _ _ _ c.in_err-book.ensures some) some))

pub returns-clause-outcome : goal.returns-clause-outcome
returns-clause-outcome c = for-book c.in_ok-book.ensures c.rdoq_block_checked.ensures.outcome
