use Prim.Native.Nat.{◌-◌}
use lib.ListN.{length}
use Rattle.token_steps.proofs.Walk.{Reached}
use Rattle.token_write.proofs.tokens_of.Given as given

abbrev pub invariant-loop-left : given.invariant-loop-left
invariant-loop-left l = Reached l.coded l.k l.left

abbrev pub decreases-loop-left : given.decreases-loop-left
decreases-loop-left l = length l.coded.scan.now - l.k
