use native.Mathlib.Omega.{arith}
use Rattle.block_file.proofs.Digits.{few-digits}
use Rattle.block_file.proofs.line.put_bits.Goals as goal

pub put-requires : goal.put-requires
put-requires c =
    let made = c.hex-n in
    let few = few-digits 16 8 16 _ _ (omega arith) (omega arith) (omega (arith, c.bits_of.type_inv)) made.ensures.len in
    rw (← made.ensures.in_bounds.1) (omega arith)

pub returns : goal.returns
returns c =
    let made = c.hex-n in
    let few = few-digits 16 8 16 _ _ (omega arith) (omega arith) (omega (arith, c.bits_of.type_inv)) made.ensures.len in
    let put = rw (← made.ensures.in_bounds.1) at c.put.ensures in
    omega arith
