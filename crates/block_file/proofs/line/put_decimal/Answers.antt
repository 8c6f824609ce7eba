use native.Mathlib.Omega.{arith}
use Rattle.block_file.proofs.Digits.{few-digits}
use Rattle.block_file.proofs.line.put_decimal.Goals as goal

pub put-requires : goal.put-requires
put-requires c =
    let made = c.decimal-n in
    let start = c.before.before.before.before.before in
    let few = few-digits 10 1 20 _ _ (omega arith) (omega arith) (omega (arith, start.ranges.number.fits)) made.ensures.len in
    rw (← made.ensures.in_bounds.1) (omega arith)

pub returns : goal.returns
returns c =
    let made = c.decimal-n in
    let start = c.before.before.before.before.before.before.before.before.before in
    let few = few-digits 10 1 20 _ _ (omega arith) (omega arith) (omega (arith, start.ranges.number.fits)) made.ensures.len in
    let put = rw (← made.ensures.in_bounds.1) at c.put.ensures in
    omega arith
