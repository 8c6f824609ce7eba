use Prim.Native.Nat.{◌-◌}
use lib.ListN.{length}
use Rattle.block_tokens.specs.Code.{contents}
use Rattle.token_write.proofs.Filled.{Writing}
use Rattle.token_write.proofs.write_all.Given as given

abbrev pub invariant-loop-left : given.invariant-loop-left
invariant-loop-left l =
    Writing (contents l.code) l.coded l.initial.contexts l.initial.symbols l.initial.extra_bits l.initial.bits l.contexts l.symbols l.extra_bits l.bits l.i l.k l.prev l.left

abbrev pub decreases-loop-left : given.decreases-loop-left
decreases-loop-left l = length l.coded.scan.now - l.k
