use Prim.Native.Nat.{◌-◌, ◌*◌}
use Rattle.block_tokens.specs.Code.{contents}
use Rattle.token_read.proofs.Refusals.{Reads}
use Rattle.token_read.proofs.check_pairs.Given as given

abbrev pub invariant-loop-owed : given.invariant-loop-owed
invariant-loop-owed l = Reads (contents l.code) l.layout.shape l.symbols l.bits l.k l.prev l.owed l.i

abbrev pub decreases-loop-owed : given.decreases-loop-owed
decreases-loop-owed l = 64 * l.layout.covered - l.k
