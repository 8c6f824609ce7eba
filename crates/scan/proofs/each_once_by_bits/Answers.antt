use lib.Dec.{lit≤}
use Rattle.scan.proofs.Bits.{bits-clear}
use Rattle.scan.proofs.each_once_by_bits.Goals as goal

pub bits_all-requires-clause-by_index : goal.bits_all-requires-clause-by_index
bits_all-requires-clause-by_index c = (bits-clear 1024 c.args.scan.now (lit≤ tt) c.requires).1
