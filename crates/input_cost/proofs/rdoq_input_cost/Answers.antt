use Rattle.std.proofs.Common.{◌≡◌, sym, refl, Err, arith}
use Rattle.refusals.proofs.Numbers.{number_positive}
use Rattle.search_checks.proofs.Refusing.{accepted-checked}
use Rattle.input_cost.proofs.Meaning.{refuses, answers}
use Rattle.input_cost.proofs.rdoq_input_cost.Goals as goal

pub returns-in_err-book : goal.returns-in_err-book
returns-in_err-book c =
    let told : c.from_residual.result ≡ Err c.in_err-book.field-0.0 = grind arith in
    rw told (refuses _ _ c.in_err-book.ensures (λ none. omega (arith, number_positive c.in_err-book.field-0.0, none)))

pub passed_cost-requires : goal.passed_cost-requires
passed_cost-requires c = accepted-checked _ 1024 _ _ _ c.in_ok-book.ensures.1 c.in_ok-book.ensures.0 (omega arith)

pub returns : goal.returns
returns c = answers _ _ (sym c.in_ok-book.ensures.1) refl c.in_ok-book.ensures.0 c.passed_cost.ensures
