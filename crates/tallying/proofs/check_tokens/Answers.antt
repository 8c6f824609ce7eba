use Rattle.std.proofs.Common.{◌≡◌, Err, Bool, not, cond, ap, refl, sym, ◌∙◌, arith}
use Rattle.coding.specs.Coding.{coding_of}
use Rattle.laws.proofs.Tests.{failed, held}
use Rattle.refusals.proofs.Numbers.{number_positive}
use Rattle.tallying.specs.Uses.{tokens_of}
use Rattle.tallying.proofs.Checks.{code-refused, code-passed}
use Rattle.tallying.proofs.check_tokens.Goals as goal

pub returns-in_err-code : goal.returns-in_err-code
returns-in_err-code c =
    let refusal = c.in_err-code.field-0.0 in
    let told : c.from_residual.result ≡ Err refusal = grind arith in
    let t = tokens_of c.args.contexts.now c.args.values.now in
    rw told (code-refused (coding_of c.args.clusters c.args.map.now c.args.configs.now) t c.args.places c.in_err-code.ensures (λ none. omega (arith, number_positive refusal, none)))

pub returns-then-not-are_tokens : goal.returns-then-not-are_tokens
returns-then-not-are_tokens c =
    let t = tokens_of c.args.contexts.now c.args.values.now in
    let passed = code-passed (coding_of c.args.clusters c.args.map.now c.args.configs.now) t c.args.places c.in_ok-code.ensures.1 in
    sym (passed ∙ ap (λ (b : Bool). cond b 0 17) (failed c.are_tokens.ensures (ap not c.if-not-are_tokens.true)))

pub returns : goal.returns
returns c =
    let t = tokens_of c.args.contexts.now c.args.values.now in
    let passed = code-passed (coding_of c.args.clusters c.args.map.now c.args.configs.now) t c.args.places c.in_ok-code.ensures.1 in
    ((c.in_ok-code.ensures.0, refl), passed ∙ ap (λ (b : Bool). cond b 0 17) (held c.are_tokens.ensures (ap not c.if-not-are_tokens.false)))
