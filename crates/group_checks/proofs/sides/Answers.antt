use Rattle.group_list.proofs.Order.{rest-start, rest_more, rest-fails, rest_all}
use Rattle.group_checks.proofs.Blocks.{sides-are}
use Rattle.group_checks.proofs.sides.Goals as goal

pub loop-i-init : goal.loop-i-init
loop-i-init c = rest-start _ _

pub returns-then-not-are_sides : goal.returns-then-not-are_sides
returns-then-not-are_sides c = rest-fails _ _ _ c.loop-i.invariant c.loop-i-test.true (sides-are _ _ c.are_sides.ensures (c.if-not-are_sides.true))

pub loop-i-preserved : goal.loop-i-preserved
loop-i-preserved c = rest_more _ _ _ c.loop-i.invariant c.loop-i-test.true (sides-are _ _ c.are_sides.ensures (c.if-not-are_sides.false))

pub returns : goal.returns
returns c = rest_all _ _ _ c.loop-i.invariant c.loop-i-test.false
