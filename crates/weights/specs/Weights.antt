-- Lambda and the distortion's weights (document 01, module 5): f32 operations, each rounded once, left to right. Definitions only.
use Rattle.std.specs.Prelude.{ℕ, max, false, cond, pos, negsuc, Float}
use Rattle.std.specs.Float.{fin, binary32}
use Rattle.std.specs.Float.Ieee.{of_int, add, sub, mul, div, lt}

-- Rust's f32::clamp: a NaN stays one
unfoldable pub clamp : Float → Float → Float → Float
clamp x lo hi = cond (lt x lo) lo (cond (lt hi x) hi x)

-- whole numbers, a half and a quarter
abbrev pub whole : ℕ → Float
whole n = of_int binary32 (pos n)

abbrev pub zero_f : Float
zero_f = fin false 0 (pos 0)

abbrev pub one_f : Float
one_f = fin false 1 (pos 0)

abbrev pub two_f : Float
two_f = fin false 1 (pos 1)

-- ((rd * 0.25) * tuning) * the ratio held within 0.5 to 2. The two constants of the Rust are arguments.
unfoldable pub lambda_of : Float → Float → Float → Float
unfolding clamp
lambda_of rd tuning ratio = mul binary32 (mul binary32 (mul binary32 rd (fin false 1 (negsuc 1))) tuning) (clamp ratio (fin false 1 (negsuc 0)) two_f)

-- What a chroma channel's distortion is multiplied by: 2 up to a distance of 2.25, falling to 1 at 4.
unfoldable pub chroma_weight : Float → Float
unfolding clamp
chroma_weight distance =
    let from = fin false 9 (negsuc 1) in
    let upto = fin false 1 (pos 2) in
    let t = clamp (div binary32 (sub binary32 distance from) (sub binary32 upto from)) zero_f one_f in
    add binary32 two_f (mul binary32 t (sub binary32 one_f two_f))

-- The weight of a position in a window of `len`: 1 + strength * (1 - index / len)², the strength growing from 0 at a distance of 2 to 1 at 3.
unfoldable pub distortion_weight : ℕ → ℕ → Float → Float
unfolding clamp
distortion_weight index len distance =
    let behind = sub binary32 one_f (div binary32 (whole index) (whole (max len 1))) in
    let strength = clamp (sub binary32 distance two_f) zero_f one_f in
    add binary32 one_f (mul binary32 strength (mul binary32 behind behind))
