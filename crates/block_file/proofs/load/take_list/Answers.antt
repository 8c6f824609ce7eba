use Rattle.std.proofs.Common.{arith}
use Rattle.block_file.proofs.Fill.{fill_none, fill_more}
use Rattle.block_file.proofs.load.take_list.Goals as goal

pub loop-i-init : goal.loop-i-init
loop-i-init g c = fill_none _ _

pub loop-i-preserved : goal.loop-i-preserved
loop-i-preserved g c = fill_more _ _ _ (omega (arith, c.requires.1, c.loop-i-test.true)) c.entry_at.ensures c.loop-i.invariant
