-- dirty_log2f: a logarithm to base 2 from a float's bits (ticket 2). With a = 2^n · m, m between 1/√2 and √2, it is n + log2 m, and log2 m is the series of artanh in x = (m − 1) / (m + 1), cut after the seventh power.
use Rattle.std.specs.Prelude.{ℕ, ◌+◌, ◌-◌, ◌/◌, ◌%◌, ◌^◌, false, pos, from_bits, to_bits, Float}
use Rattle.std.specs.Float.{fin, binary32}
use Rattle.std.specs.Float.Ieee.{add, sub, mul, div, of_int}

-- With y = x²: the f32 nearest 2 / (7 ln 2), 2 / (5 ln 2), 2 / (3 ln 2) and 2 / ln 2 (0.41219857, 0.57707804, 0.9617967, 2.88539).
unfoldable pub series : Float → Float → Float → Float
series n x y =
    let p = add binary32 (mul binary32 (from_bits binary32 1054018481) y) (from_bits binary32 1058257763) in
    let q = add binary32 (mul binary32 p y) (from_bits binary32 1064712271) in
    add binary32 (mul binary32 (mul binary32 y x) q) (add binary32 (mul binary32 x (from_bits binary32 1077455419)) n)

unfoldable pub of_parts : Float → Float → Float
of_parts n m =
    let x = div binary32 (sub binary32 m (fin false 1 (pos 0))) (add binary32 m (fin false 1 (pos 0))) in
    series n x (mul binary32 x x)

-- The bits moved up so that the exponent's field steps at the square root of 2 (0x3f800000 − 0x3f3504f3), modulo 2^32.
unfoldable pub moved : ℕ → ℕ
moved bits = (bits + 4913933) % 2 ^ 32

unfoldable pub dirty_log2 : Float → Float
dirty_log2 d =
    let i = moved (to_bits binary32 d) in
    of_parts (sub binary32 (of_int binary32 (pos (i / 8388608))) (fin false 127 (pos 0))) (from_bits binary32 ((i % 8388608 + 1060439283) % 2 ^ 32))
