use Rattle.std.proofs.Common.{◌≡◌, length, arith}
use Rattle.tallying.specs.Uses.{place_at, cluster_at, extra_at}
use Rattle.tallying.specs.Changes.{counted_of}
use Rattle.tallying.proofs.Steps.{in-places}
use Rattle.tallying.proofs.Changes.{none, all, next, no-place, no-rest}
use Rattle.tallying.proofs.Checks.{countable}
use Rattle.tallying.proofs.count_tokens.Goals as goal

pub loop-i-init : goal.loop-i-init
loop-i-init c = none c.args.change

pub returns-in_err-count-clause-counted : goal.returns-in_err-count-clause-counted
unfolding place_at cluster_at extra_at
returns-in_err-count-clause-counted c =
    let token = c.use_of-token.ensures in
    let before : counted_of c.from_residual.result (length c.args.tokens.now.contexts.now) ≡ c.loop-i.i = grind arith in
    rw before (no-place (countable c.args.code.now c.args.tokens.now c.requires) c.loop-i-test.true token.place_value token.extra_value c.args.change c.loop-i.invariant (rw c.in_err-count.ensures.ok_part at c.count.ensures))

pub returns-in_err-extra-clause-counted : goal.returns-in_err-extra-clause-counted
unfolding place_at cluster_at extra_at
returns-in_err-extra-clause-counted c =
    let token = c.use_of-token.ensures in
    let before : counted_of c.from_residual-in_err-extra.result (length c.args.tokens.now.contexts.now) ≡ c.loop-i.i = grind arith in
    rw before (no-rest (countable c.args.code.now c.args.tokens.now c.requires) c.loop-i-test.true token.place_value token.extra_value c.args.change c.loop-i.invariant (omega arith) (rw c.in_err-extra.ensures.ok_part at c.total.ensures))

pub loop-i-preserved : goal.loop-i-preserved
unfolding place_at cluster_at extra_at
loop-i-preserved c =
    let token = c.use_of-token.ensures in
    let count = rw c.in_ok-count.ensures.ok_part at c.count.ensures in
    let total = rw c.in_ok-extra.ensures.ok_part at c.total.ensures in
    rw (count.1, total.1) (next (countable c.args.code.now c.args.tokens.now c.requires) c.loop-i-test.true token.place_value token.extra_value c.args.change c.loop-i.invariant count.0 total.0)

pub returns-clause-counted : goal.returns-clause-counted
returns-clause-counted c = all c.args.change c.loop-i.invariant c.loop-i-test.false

pub bounds-tokens-i : goal.bounds-tokens-i
bounds-tokens-i c = omega (arith, (countable c.args.code.now c.args.tokens.now c.requires).long, c.loop-i-test.true)

pub use_of-token-requires : goal.use_of-token-requires
use_of-token-requires c =
    let K = countable c.args.code.now c.args.tokens.now c.requires in
    record { token = (K.context _ c.loop-i-test.true, K.value _ c.loop-i-test.true) }

pub bounds-counts-token : goal.bounds-counts-token
unfolding place_at cluster_at
bounds-counts-token c =
    let K = countable c.args.code.now c.args.tokens.now c.requires in
    omega (arith, c.use_of-token.ensures.place_value, in-places K _ c.loop-i-test.true, c.loop-i.auto.counts)

pub bounds-counts-token-in-loop-i : goal.bounds-counts-token-in-loop-i
unfolding place_at cluster_at
bounds-counts-token-in-loop-i c =
    let K = countable c.args.code.now c.args.tokens.now c.requires in
    omega (arith, c.use_of-token.ensures.place_value, in-places K _ c.loop-i-test.true, c.loop-i.auto.counts)
