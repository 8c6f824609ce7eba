-- No refusal has the number 0, which says that nothing is refused.
use Rattle.std.proofs.Common.{◌≤◌, arith}
use Rattle.refusals.specs.declared.Refusal.{Refusal}
use Rattle.refusals.specs.Numbers.{number_of}

pub number_positive : (r : Refusal) → 1 ≤ number_of r
number_positive r = grind arith
