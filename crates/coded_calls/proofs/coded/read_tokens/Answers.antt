use Rattle.std.proofs.Common.{◌≡◌, Err, ap, arith}
use Rattle.block_tokens.proofs.Passed.{passed}
use Rattle.block_tokens.proofs.Promises.{read-promise}
use Rattle.block_tokens.specs.Code.{code_in}
use Rattle.block_tokens.specs.Outcome.{given_of}
use Rattle.refusals.proofs.Numbers.{number_positive}
use Rattle.coded_calls.proofs.Settled.{read-refused, read}
use Rattle.coded_calls.proofs.coded.read_tokens.Goals as goal

pub returns-in_err-code : goal.returns-in_err-code
returns-in_err-code c =
    let a = c.args in
    let g = given_of a.clusters a.map.now a.configs.now a.shape a.scan.now in
    let refusal = c.in_err-code.field-0.0 in
    let told : c.from_residual.result ≡ Err refusal = grind arith in
    rw told (read-promise g _ _ a.levels.now _ _ (read-refused g a.levels.now c.in_err-code.ensures (λ none. omega (arith, number_positive refusal, none)) a.symbols.now a.bits.now))

pub read_coded-requires : goal.read_coded-requires
read_coded-requires c =
    let a = c.args in
    let k = passed (given_of a.clusters a.map.now a.configs.now a.shape a.scan.now) a.levels.now c.in_ok-code.ensures.1 in
    record { shaped = (k.shaped, k.scanned) }

pub returns : goal.returns
returns c =
    let a = c.args in
    let g = given_of a.clusters a.map.now a.configs.now a.shape a.scan.now in
    read-promise g _ _ a.levels.now _ _ (read g a.levels.now c.in_ok-code.ensures.1 a.symbols.now a.bits.now _ (rw (ap code_in c.in_ok-code.ensures.0) at c.read_coded.ensures))
