use Rattle.std.proofs.Common.{◌≡◌, refl, sym, ◌∙◌, Err, arith}
use Rattle.block_tokens.proofs.Passed.{covered-most, sized}
use Rattle.refusals.proofs.Numbers.{number_positive}
use Rattle.token_checks.proofs.Returns.{coding-refused, shape-refused, at11, none}
use Rattle.token_checks.proofs.check_lent.Goals as goal

pub returns-in_err-code : goal.returns-in_err-code
returns-in_err-code c =
    let refusal = c.in_err-code.field-0.0 in
    let told : c.from_residual.result ≡ Err refusal = grind arith in
    rw told (coding-refused _ _ c.in_err-code.ensures (λ z. omega (arith, number_positive refusal, z)))

pub returns-in_err-check_shape : goal.returns-in_err-check_shape
returns-in_err-check_shape c =
    let refusal = c.in_err-check_shape.field-0.0 in
    let told : c.from_residual-in_err-check_shape.result ≡ Err refusal = grind arith in
    rw told (shape-refused _ _ (sym c.in_ok-code.ensures.1) refl c.in_err-check_shape.ensures (λ z. omega (arith, number_positive refusal, z)))

pub each_once-requires : goal.each_once-requires
each_once-requires c =
    let s = sized _ _ _ (sym c.in_ok-check_shape.ensures) in
    omega (arith, s.scan_long, covered-most s.shaped)

pub returns-then-not-each_once : goal.returns-then-not-each_once
returns-then-not-each_once c = at11 _ _ (sym c.in_ok-code.ensures.1) refl c.in_ok-check_shape.ensures refl (sym c.each_once.ensures ∙ c.if-not-each_once.true)

pub returns : goal.returns
returns c =
    (c.in_ok-code.ensures.0, sym (none _ _ (sym c.in_ok-code.ensures.1) refl c.in_ok-check_shape.ensures refl (sym c.each_once.ensures ∙ c.if-not-each_once.false)))
