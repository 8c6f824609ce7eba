use Rattle.std.proofs.Common.{◌≡◌, sym, Err, arith}
use Rattle.block_checks.proofs.Laws.{passed}
use Rattle.refusals.proofs.Numbers.{number_positive}
use Rattle.search_checks.proofs.Refusing.{accepted-checked, accepted-room, room_of}
use Rattle.beam.proofs.Calling.{by-check, refused-beam, let-pass, whole}
use Rattle.beam.proofs.Demand.{promised}
use Rattle.beam.proofs.rdoq_block_beam.Goals as goal

pub returns-in_err-book : goal.returns-in_err-book
returns-in_err-book c =
    let told : c.from_residual.result ≡ Err c.in_err-book.field-0.0 = grind arith in
    let number = by-check _ _ _ _ _ c.in_err-book.ensures in
    rw told (whole (promised _ _ _ _ (passed _ 1024 _ (omega arith)) _ (refused-beam _ _ _ _ _ number (λ none. omega (arith, number_positive c.in_err-book.field-0.0, none)))))

pub search_beam-requires : goal.search_beam-requires
search_beam-requires c =
    let book = c.in_ok-book.ensures in
    (accepted-checked _ 1024 _ _ _ book.1 book.0 (omega arith), (room_of 6 0 _ _ 0 0 (accepted-room _ 1024 _ _ _ book.1)).1.1)

pub returns : goal.returns
returns c =
    let book = c.in_ok-book.ensures in
    let none = sym (by-check _ _ _ _ _ (sym book.1)) in
    whole (promised _ _ _ _ (passed _ 1024 _ (omega arith)) _ (let-pass _ _ _ _ _ none book.0 c.search_beam.ensures))
