use Rattle.std.proofs.Common.{sym, arith, suc-le-suc}
use Rattle.token_steps.proofs.Walk.{next, has-token, token-by, coded-small, count_most, at-start, coded-next, coded-fails, count-coded, count-fails, counted-all}
use Rattle.token_bounds.proofs.all_coded.Goals as goal

pub overflow_cast-count : goal.overflow_cast-count
overflow_cast-count c = let at = c.requires.coded.1 in record { fits = omega (arith, count_most at.laid at.scanned c.requires.count_value) }

pub split_under-requires : goal.split_under-requires
split_under-requires c =
    let at = c.requires.coded.1 in
    record { coded = c.requires.coded.0; context_bound = (at.laid.count_most, omega (arith, count_most at.laid at.scanned c.requires.count_value)) }

pub returns-then-split_under-gt127 : goal.returns-then-split_under-gt127
returns-then-split_under-gt127 c h laid scanned = sym (count-fails laid scanned c.requires.count_value _ _ c.split_under.ensures c.if-split_under-gt127.true)

pub first_prev-prev-requires : goal.first_prev-prev-requires
first_prev-prev-requires c = c.requires.coded.1.laid.most

pub loop-left-init : goal.loop-left-init
loop-left-init c h laid scanned =
    record {
      at = at-start laid scanned c.requires.count_value _ c.first_prev-prev.ensures;
      coded = count-coded laid scanned c.requires.count_value _ _ c.split_under.ensures c.if-split_under-gt127.false;
    }

pub token_at-step-requires : goal.token_at-step-requires
token_at-step-requires c =
    let placed = c.requires.coded.1 in
    let here = (c.loop-left.invariant placed.shape placed.laid placed.scanned).at in
    let n = next _ _ _ _ _ _ here c.loop-left-test.true in
    record {
      coded = c.requires.coded.0;
      has_token = has-token placed.laid _ _ placed.scanned _ _ _ n.coefficient (coded-small _ _ _ _ (c.requires.levels_value placed.shape placed.laid) here.from n.below);
    }

pub returns-then-step-gt127 : goal.returns-then-step-gt127
returns-then-step-gt127 c h laid scanned =
    let now = c.loop-left.invariant h laid scanned in
    let n = next _ _ _ _ _ _ now.at c.loop-left-test.true in
    let step = rw (token-by c.args.layout laid _ _ _ _ _) at c.token_at-step.ensures in
    sym (coded-fails _ _ now.coded n.token (rw step.symbol_is at c.if-step-gt127.true))

pub overflow_sub-left : goal.overflow_sub-left
overflow_sub-left c =
    let placed = c.requires.coded.1 in
    rw c.token_at-step.ensures.nonzero_is (next _ _ _ _ _ _ (c.loop-left.invariant placed.shape placed.laid placed.scanned).at c.loop-left-test.true).enough

pub loop-left-smaller : goal.loop-left-smaller
loop-left-smaller c =
    let placed = c.requires.coded.1 in
    omega (arith, (next _ _ _ _ _ _ (c.loop-left.invariant placed.shape placed.laid placed.scanned).at c.loop-left-test.true).below, placed.scanned.order.size)

pub loop-left-preserved : goal.loop-left-preserved
loop-left-preserved c h laid scanned =
    let now = c.loop-left.invariant h laid scanned in
    let n = next _ _ _ _ _ _ now.at c.loop-left-test.true in
    let step = rw (token-by c.args.layout laid _ _ _ _ _) at c.token_at-step.ensures in
    rw c.token_at-step.ensures.nonzero_is
    (record { at = n.there; coded = coded-next _ _ now.coded n.token (rw step.symbol_is at (suc-le-suc c.if-step-gt127.false)) })

pub returns : goal.returns
returns c h laid scanned = sym (counted-all _ _ _ _ _ _ _ (c.loop-left.invariant h laid scanned) c.loop-left-test.false)
