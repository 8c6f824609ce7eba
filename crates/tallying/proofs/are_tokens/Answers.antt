use Rattle.std.proofs.Common.{ℕ, ◌≡◌, ◌+◌, ◌*◌, ◌≤◌, ◌&&◌, Bool, true, false, min, length, ap, ap₂, subst, sym, ◌∙◌, arith}
use Rattle.prices.specs.Checks.{each}
use Rattle.prices.proofs.Each.{each-cut}
use Rattle.std.proofs.Math.Bool.{and-false}
use Rattle.tallying.specs.Uses.{tokens_of}
use Rattle.tallying.proofs.Checks.{is_token, other-lengths, token-by-token, all-tokens}
use Rattle.tallying.proofs.Pieces.{with-piece}
use Rattle.tallying.proofs.are_tokens.Goals as goal

pub returns-then-values-n : goal.returns-then-values-n
returns-then-values-n c = other-lengths (tokens_of c.args.contexts.now c.args.values.now) c.if-values-n.true

pub loop-piece-init : goal.loop-piece-init
unfolding each
loop-piece-init c =
    let n = length c.args.contexts.now in
    let none : min (0 * 64) n ≡ 0 = omega arith in
    ap (λ (m : ℕ). each m (is_token (tokens_of c.args.contexts.now c.args.values.now))) none

pub returns-then-not-pass : goal.returns-then-not-pass
returns-then-not-pass c =
    let t = tokens_of c.args.contexts.now c.args.values.now in
    let start = c.loop-piece.piece * 64 in
    let end = c.min-end.result in
    let long = c.if-values-n.false in
    let few : end ≤ length c.args.contexts.now = omega (arith, c.min-end.ensures) in
    let order : start ≤ end = omega (arith, c.min-end.ensures, c.loop-piece-test.true) in
    let fails : each end (is_token t) ≡ false = with-piece t long start end order few ∙ ap (λ (b : Bool). each start (is_token t) && b) (sym c.pass.ensures ∙ c.if-not-pass.true) ∙ and-false (each start (is_token t)) in
    sym (each-cut (is_token t) end (length c.args.contexts.now) few fails) ∙ token-by-token t long

pub loop-piece-preserved : goal.loop-piece-preserved
loop-piece-preserved c =
    let t = tokens_of c.args.contexts.now c.args.values.now in
    let start = c.loop-piece.piece * 64 in
    let end = c.min-end.result in
    let n = length c.args.contexts.now in
    let long = c.if-values-n.false in
    let few : end ≤ n = omega (arith, c.min-end.ensures) in
    let order : start ≤ end = omega (arith, c.min-end.ensures, c.loop-piece-test.true) in
    let before : min start n ≡ start = omega (arith, order, few) in
    let after : min ((c.loop-piece.piece + 1) * 64) n ≡ end = omega (arith, c.min-end.ensures) in
    let passed : each start (is_token t) ≡ true = subst (λ (m : ℕ). each m (is_token t) ≡ true) before c.loop-piece.invariant in
    rw after (with-piece t long start end order few ∙ ap₂ ◌&&◌ passed (sym c.pass.ensures ∙ c.if-not-pass.false))

pub returns : goal.returns
returns c =
    let t = tokens_of c.args.contexts.now c.args.values.now in
    let n = length c.args.contexts.now in
    let all : min (c.loop-piece.piece * 64) n ≡ n = omega (arith, c.loop-piece-test.false) in
    all-tokens t c.if-values-n.false (subst (λ (m : ℕ). each m (is_token t) ≡ true) all c.loop-piece.invariant)
