use Rattle.group_list.proofs.Order.{rest-start, rest_more, rest-fails, rest_all}
use Rattle.group_checks.proofs.Blocks.{channel-passes, channel-fails}
use Rattle.group_checks.proofs.channels.Goals as goal

pub loop-i-init : goal.loop-i-init
loop-i-init c = rest-start _ _

pub returns-then-words-i-gt2 : goal.returns-then-words-i-gt2
returns-then-words-i-gt2 c = rest-fails _ _ _ c.loop-i.invariant c.loop-i-test.true (channel-fails _ _ c.if-words-i-gt2.true)

pub loop-i-preserved : goal.loop-i-preserved
loop-i-preserved c = rest_more _ _ _ c.loop-i.invariant c.loop-i-test.true (channel-passes _ _ c.if-words-i-gt2.false)

pub returns : goal.returns
returns c = rest_all _ _ _ c.loop-i.invariant c.loop-i-test.false
