use mathlib.Core.Path.{◌≡◌}
use mathlib.Core.Bool.{false}
use Rattle.ac_context.specs.Contexts.{is_power_below}
use Rattle.ac_context.proofs.log2_covered.Given as given

abbrev pub invariant-loop-log2 : given.invariant-loop-log2
invariant-loop-log2 l = is_power_below l.log2 l.covered_blocks ≡ false
