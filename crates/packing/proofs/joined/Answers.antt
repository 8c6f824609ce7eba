use Rattle.std.proofs.Common.{arith}
use Rattle.packing.proofs.Decoded.{parts}
use Rattle.packing.proofs.joined.Goals as goal

pub shifted_up-requires-clause-k_bound_2 : goal.shifted_up-requires-clause-k_bound_2
shifted_up-requires-clause-k_bound_2 c = rw (c.low_bits.ensures, c.power.ensures) (omega (arith, parts _ _ _ _ _ c.requires.l_bound))

pub overflow_add-shifted_up : goal.overflow_add-shifted_up
overflow_add-shifted_up c =
    rw (c.shifted_up.ensures, c.low_bits.ensures, c.power.ensures)
    (record { fits = omega (arith, parts _ _ _ _ _ c.requires.l_bound) })
