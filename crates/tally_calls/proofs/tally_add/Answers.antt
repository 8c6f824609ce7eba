use Rattle.std.proofs.Common.{◌≡◌, arith}
use Rattle.refusals.specs.Numbers.{number_of, code_of}
use Rattle.refusals.proofs.Numbers.{number_positive}
use Rattle.tallying.specs.Tally.{tally_of}
use Rattle.tallying.proofs.Settled.{add-refused}
use Rattle.tally_calls.proofs.tally_add.Goals as goal

pub returns-in_err-code : goal.returns-in_err-code
returns-in_err-code c =
    let told : code_of c.from_residual.result ≡ number_of c.in_err-code.field-0.0 = grind arith in
    rw told (add-refused _ _ (tally_of c.args.counts.now c.args.extra.now) c.in_err-code.ensures (λ passes. omega (arith, number_positive c.in_err-code.field-0.0, passes)))
