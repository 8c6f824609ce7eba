use mathlib.Core.Path.{sym}
use native.Mathlib.Omega.{arith}
use lib.Ieee.{nan_bits, of_bits, sub}
use Rattle.block_file.proofs.Numbers.{reads-nan, no_nan}
use Rattle.block_file.proofs.fields.float_of.Goals as goal

pub float_from_bits-infinity : goal.float_from_bits-infinity
unfolding nan_bits
float_from_bits-infinity c = tt

pub returns-then-bits-gt2139095040 : goal.returns-then-bits-gt2139095040
unfolding of_bits sub
returns-then-bits-gt2139095040 c = sym (reads-nan _ c.if-bits-gt2139095040.true)

pub float_from_bits-result : goal.float_from_bits-result
float_from_bits-result c = no_nan _ (omega arith)
