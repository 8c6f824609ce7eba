use Rattle.std.proofs.Common.{◌≡◌, Err, refl, sym, ap, not, ◌∙◌, arith}
use Rattle.laws.proofs.Tests.{failed, held}
use Rattle.refusals.proofs.Numbers.{number_positive}
use Rattle.block_tokens.specs.Tokens.{coded_levels}
use Rattle.block_tokens.specs.Writing.{outputs}
use Rattle.block_tokens.proofs.Accepted.{tokens-most, coded-length}
use Rattle.block_tokens.proofs.Passed.{covered-most}
use Rattle.token_write.proofs.Results.{refused, passing, too_short, done, smallest}
use Rattle.token_write.proofs.write_coded.Goals as goal

pub returns-in_err-check_levels : goal.returns-in_err-check_levels
returns-in_err-check_levels c =
    let refusal = c.in_err-check_levels.field-0.0 in
    let told : c.from_residual.result ≡ Err refusal = grind arith in
    let a = c.args in
    rw told (refused _ _ _ (outputs a.contexts.now a.symbols.now a.extra_bits.now a.bits.now) (rw c.layout_of-layout.ensures at c.in_err-check_levels.ensures) (λ z. omega (arith, number_positive refusal, z)))

pub returns-then-not-has_room : goal.returns-then-not-has_room
returns-then-not-has_room c =
    let a = c.args in
    let room = rw (c.layout_of-layout.ensures, c.min-room.ensures, c.min-2.ensures, c.min.ensures) at c.has_room.ensures ∙ smallest _ a.contexts.now a.symbols.now a.extra_bits.now a.bits.now in
    let ok = passing _ _ _ _ (sym (rw c.layout_of-layout.ensures at c.in_ok-check_levels.ensures)) in
    too_short _ _ _ _ ok _ refl (failed room (ap not c.if-not-has_room.true))

pub write_all-n-requires-clause-within : goal.write_all-n-requires-clause-within
write_all-n-requires-clause-within c =
    let a = c.args in
    (passing _ _ _ (outputs a.contexts.now a.symbols.now a.extra_bits.now a.bits.now) (sym c.in_ok-check_levels.ensures)).small

pub write_all-n-requires-clause-room : goal.write_all-n-requires-clause-room
write_all-n-requires-clause-room c =
    let a = c.args in
    let room = rw (c.min-room.ensures, c.min-2.ensures, c.min.ensures) at c.has_room.ensures ∙ smallest _ a.contexts.now a.symbols.now a.extra_bits.now a.bits.now in
    held room (ap not c.if-not-has_room.false)

pub overflow_cast-result : goal.overflow_cast-result
overflow_cast-result c =
    let a = c.args in
    let number = rw c.layout_of-layout.ensures at c.write_all-n.ensures.number in
    record { fits = omega (arith, number, tokens-most a.shape (coded_levels a.shape a.scan.now a.levels.now) (coded-length a.shape a.scan.now a.levels.now), covered-most c.requires.shaped.0) }

pub returns : goal.returns
returns c =
    let a = c.args in
    let all = rw c.layout_of-layout.ensures at c.write_all-n.ensures in
    let room = rw (c.layout_of-layout.ensures, c.min-room.ensures, c.min-2.ensures, c.min.ensures) at c.has_room.ensures ∙ smallest _ a.contexts.now a.symbols.now a.extra_bits.now a.bits.now in
    let ok = passing _ _ _ _ (sym (rw c.layout_of-layout.ensures at c.in_ok-check_levels.ensures)) in
    done _ _ _ _ ok _ all.number (rw all.number (held room (ap not c.if-not-has_room.false))) _ all.written
