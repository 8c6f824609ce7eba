use Rattle.std.proofs.Common.{sym, ap, not, ◌∙◌, arith}
use Rattle.laws.proofs.Tests.{failed, held}
use Rattle.token_steps.proofs.Walk.{count_most}
use Rattle.token_bounds.proofs.Small.{at24, at20, none, small-refused, small-passes}
use Rattle.token_bounds.proofs.check_placed.Goals as goal

pub all_small-requires : goal.all_small-requires
all_small-requires c = let at = c.requires.coded.1 in omega (arith, at.scanned.long, at.laid.covered_is, at.laid.most)

pub overflow_cast-count : goal.overflow_cast-count
overflow_cast-count c = let at = c.requires.coded.1 in record { fits = omega (arith, count_most at.laid at.scanned c.requires.count_value) }

pub split_under-requires : goal.split_under-requires
split_under-requires c =
    let at = c.requires.coded.1 in
    record { coded = c.requires.coded.0; context_bound = (at.laid.count_most, omega (arith, count_most at.laid at.scanned c.requires.count_value)) }

pub returns-then-split_under-gt127 : goal.returns-then-split_under-gt127
returns-then-split_under-gt127 c h laid scanned =
    small-refused c.requires.coded.0 laid scanned (sym c.all_small.ensures ∙ c.if-all_small.true) c.requires.count_value _ c.split_under.ensures c.if-split_under-gt127.true

pub returns-then-all_small : goal.returns-then-all_small
returns-then-all_small c h laid scanned =
    small-passes c.requires.coded.0 laid scanned (sym c.all_small.ensures ∙ c.if-all_small.true) c.requires.count_value _ c.split_under.ensures c.if-split_under-gt127.false

pub returns-then-not-all_within : goal.returns-then-not-all_within
returns-then-not-all_within c h laid scanned = at24 _ _ _ _ (failed (c.all_within.ensures h laid) (ap not c.if-not-all_within.true))

pub all_coded-requires : goal.all_coded-requires
all_coded-requires c =
    record { coded = c.requires.coded; levels_value = λ h laid. held (c.all_within.ensures h laid) (ap not c.if-not-all_within.false); count_value = c.requires.count_value }

pub returns-then-not-all_coded : goal.returns-then-not-all_coded
returns-then-not-all_coded c h laid scanned =
    at20 _ _ _ _ (held (c.all_within.ensures h laid) (ap not c.if-not-all_within.false)) (failed (c.all_coded.ensures h laid scanned) (ap not c.if-not-all_coded.true))

pub returns : goal.returns
returns c h laid scanned =
    none _ _ _ _ (held (c.all_within.ensures h laid) (ap not c.if-not-all_within.false)) (held (c.all_coded.ensures h laid scanned) (ap not c.if-not-all_coded.false))
