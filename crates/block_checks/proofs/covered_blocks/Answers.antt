use native.Mathlib.Nat.{mul-le-mul, lt_of_le_of_lt}
use lib.Dec.{lit<}
use Rattle.block_checks.proofs.Sides.{side-most}
use Rattle.block_checks.proofs.covered_blocks.Goals as goal

pub overflow_mul-result : goal.overflow_mul-result
overflow_mul-result c =
    record { fits = lt_of_le_of_lt (mul-le-mul (side-most c.args.cx c.requires.0) (side-most c.args.cy c.requires.1)) (lit< tt) }
