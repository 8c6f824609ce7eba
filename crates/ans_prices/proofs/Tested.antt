-- Each entry of the table is the routine's: one test for each part, computed. Assumes nothing.
use Prim.Native.Nat.{ℕ}
use mathlib.Core.Bool.{Bool}
use lib.Dec.{T, eqb}
use lib.Ieee.{to_bits, of_bits, of_int, add, sub, mul, div, binary32}
use Rattle.laws.proofs.Table.{every}
use Rattle.ans_log.specs.Log.{dirty_log2, moved, of_parts, series}
use Rattle.ans_prices.specs.Ans.{ans_price}
use Rattle.ans_prices.proofs.Prices.{part0, part1, part2, part3, part4, part5, part6, part7}

abbrev pub right : ℕ → ℕ → Bool
right k x = eqb x (to_bits binary32 (ans_price k))

pub right0 : T (every right 0 part0)
unfolding part0 ans_price dirty_log2 moved of_parts series to_bits of_bits of_int add sub mul div
right0 = tt

pub right1 : T (every right 513 part1)
unfolding part1 ans_price dirty_log2 moved of_parts series to_bits of_bits of_int add sub mul div
right1 = tt

pub right2 : T (every right 1025 part2)
unfolding part2 ans_price dirty_log2 moved of_parts series to_bits of_bits of_int add sub mul div
right2 = tt

pub right3 : T (every right 1537 part3)
unfolding part3 ans_price dirty_log2 moved of_parts series to_bits of_bits of_int add sub mul div
right3 = tt

pub right4 : T (every right 2049 part4)
unfolding part4 ans_price dirty_log2 moved of_parts series to_bits of_bits of_int add sub mul div
right4 = tt

pub right5 : T (every right 2561 part5)
unfolding part5 ans_price dirty_log2 moved of_parts series to_bits of_bits of_int add sub mul div
right5 = tt

pub right6 : T (every right 3073 part6)
unfolding part6 ans_price dirty_log2 moved of_parts series to_bits of_bits of_int add sub mul div
right6 = tt

pub right7 : T (every right 3585 part7)
unfolding part7 ans_price dirty_log2 moved of_parts series to_bits of_bits of_int add sub mul div
right7 = tt
