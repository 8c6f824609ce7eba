use Rattle.std.proofs.Common.{ℕ, ◌/◌, ◌%◌, ◌<◌, not, T, refl, arith, ne_eqb}
use lib.Ieee.{of_bits, nan_bits, binary32}
use Rattle.ans_log.specs.Log.{dirty_log2, moved, of_parts, series}
use Rattle.ans_log.proofs.dirty_log2f.Goals as goal

-- a pattern below +infinity's is no NaN's
quiet : (b : ℕ) → b < 2139095040 → T (not (nan_bits binary32 b))
unfolding nan_bits
quiet b h =
    let field : b % 2147483648 / 8388608 < 255 = omega arith in
    rw (ne_eqb (b % 2147483648 / 8388608) 255 (λ e. omega arith)) tt

pub float_from_bits-a : goal.float_from_bits-a
float_from_bits-a c = quiet _ (omega arith)

pub returns : goal.returns
unfolding dirty_log2 moved of_parts series of_bits
returns c = refl
