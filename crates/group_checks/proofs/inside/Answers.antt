use Rattle.group_list.proofs.Order.{rest-start, rest_more, rest-fails, rest_all}
use Rattle.group_checks.proofs.Blocks.{inside_is}
use Rattle.group_checks.proofs.inside.Goals as goal

pub loop-i-init : goal.loop-i-init
loop-i-init c = rest-start _ _

pub returns-then-not-is_inside : goal.returns-then-not-is_inside
returns-then-not-is_inside c = rest-fails _ _ _ c.loop-i.invariant c.loop-i-test.true (inside_is _ _ c.is_inside.ensures (c.if-not-is_inside.true))

pub loop-i-preserved : goal.loop-i-preserved
loop-i-preserved c = rest_more _ _ _ c.loop-i.invariant c.loop-i-test.true (inside_is _ _ c.is_inside.ensures (c.if-not-is_inside.false))

pub returns : goal.returns
returns c = rest_all _ _ _ c.loop-i.invariant c.loop-i-test.false
