use Rattle.std.proofs.Common.{◌≡◌, refl, sym, Err, arith}
use Rattle.block_checks.proofs.Laws.{passed}
use Rattle.refusals.proofs.Numbers.{number_positive}
use Rattle.search_checks.proofs.Refusing.{accepted-checked, accepted-room, accepted-width}
use Rattle.trellis.proofs.Banded.{by-check, refused-banded, let-pass, roomy_of, whole}
use Rattle.trellis.proofs.Demand.{promised}
use Rattle.trellis.proofs.rdoq_block_banded.Goals as goal

pub returns-in_err-book-clause-outcome : goal.returns-in_err-book-clause-outcome
returns-in_err-book-clause-outcome c =
    let told : c.from_residual.result ≡ Err c.in_err-book.field-0.0 = grind arith in
    let number = by-check _ _ _ _ _ c.asked.ensures.value c.lengths.ensures c.in_err-book.ensures in
    rw told (whole (promised _ _ _ _ (λ n. passed n 1024 _ (omega arith)) _ refl (refused-banded _ _ _ _ _ number (λ none. omega (arith, number_positive c.in_err-book.field-0.0, none)))))

pub search_banded-requires : goal.search_banded-requires
search_banded-requires c =
    let book = c.in_ok-book.ensures in
    record { width_bound = accepted-width _ 1024 _ _ _ book.1; accepted = (accepted-checked _ 1024 _ _ _ book.1 book.0 (omega arith), roomy_of _ _ _ _ _ c.asked.ensures.value c.lengths.ensures (accepted-room _ 1024 _ _ _ book.1)) }

pub returns-clause-outcome : goal.returns-clause-outcome
returns-clause-outcome c =
    let book = c.in_ok-book.ensures in
    let none = sym (by-check _ _ _ _ _ c.asked.ensures.value c.lengths.ensures (sym book.1)) in
    whole (promised _ _ _ _ (λ n. passed n 1024 _ (omega arith)) _ refl (let-pass _ _ _ _ _ none book.0 c.search_banded.ensures.outcome))
