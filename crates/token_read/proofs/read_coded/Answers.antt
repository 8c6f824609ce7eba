use Rattle.std.proofs.Common.{◌≡◌, Err, arith}
use Rattle.coding.proofs.Passed.{coded-in}
use Rattle.refusals.proofs.Numbers.{number_positive}
use Rattle.token_read.proofs.Told.{accepted, refused, pairs-few, restored}
use Rattle.token_read.proofs.read_coded.Goals as goal

pub returns-in_err-check_pairs : goal.returns-in_err-check_pairs
returns-in_err-check_pairs c =
    let refusal = c.in_err-check_pairs.field-0.0 in
    let told : c.from_residual.result ≡ Err refusal = grind arith in
    rw told (refused _ _ _ _ _ (rw c.layout_of-layout.ensures at c.in_err-check_pairs.ensures) (λ z. omega (arith, number_positive refusal, z)))

pub restore-from-requires-clause-accepted : goal.restore-from-requires-clause-accepted
restore-from-requires-clause-accepted c = accepted _ _ _ _ c.in_ok-check_pairs.ensures

pub overflow_cast-result : goal.overflow_cast-result
overflow_cast-result c =
    record { fits = omega (arith, pairs-few (coded-in c.args.code.now) c.requires.shaped.0 (accepted _ _ _ _ (rw c.layout_of-layout.ensures at c.in_ok-check_pairs.ensures))) }

pub returns : goal.returns
returns c =
    let ok = accepted _ _ _ _ (rw c.layout_of-layout.ensures at c.in_ok-check_pairs.ensures) in
    restored _ c.requires.shaped.1 ok (rw c.layout_of-layout.ensures at c.restore-from.ensures) c.clear_from.ensures
