use Rattle.std.proofs.Common.{sym, ◌∙◌, arith}
use Rattle.prices.proofs.Passed.{sound}
use Rattle.book_rows.proofs.Steps.{sound-row}
use Rattle.refusals.proofs.Numbers.{number_positive}
use Rattle.book_build.proofs.Filled.{refused, accepted}
use Rattle.book_build.proofs.fill_ready.Goals as goal

pub returns-in_err-check_one_to_five-clause-ready_after : goal.returns-in_err-check_one_to_five-clause-ready_after
returns-in_err-check_one_to_five-clause-ready_after c =
    let number = c.in_err-check_one_to_five.ensures in
    sym (refused _ (λ passes. omega (arith, number_positive c.in_err-check_one_to_five.field-0.0, number, passes)))

pub write_ready-requires : goal.write_ready-requires
write_ready-requires c =
    let p = sound _ (sym c.in_ok-check_one_to_five.ensures) in
    λ k h. sound-row _ p k (omega (arith, h, p.ready_long))

pub returns-clause-ready_after : goal.returns-clause-ready_after
returns-clause-ready_after c =
    let passes = sym c.in_ok-check_one_to_five.ensures in
    c.write_ready.ensures ∙ rw (sound _ passes).ready_long (sym (accepted _ passes))
