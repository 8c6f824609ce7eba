use Rattle.std.proofs.Common.{◌≡◌, refl, ap}
use Rattle.std.specs.Float.{float_zero}
use lib.Ieee.{of_bits, binary32}
use Rattle.block_lists.specs.Zeros.{zeros_and}
use Rattle.block_lists.proofs.Lists.new.Goals as goal

-- the literal 0.0
literal : of_bits binary32 0 ≡ float_zero
unfolding of_bits
literal = refl

pub returns : goal.returns
returns c = ap zeros_and literal
