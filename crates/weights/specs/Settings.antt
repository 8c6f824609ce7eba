-- The settings of a search, check 10 of them, and the weight of each window position. Definitions only.
use Rattle.std.specs.Prelude.{ℕ, min, Bool, false, cond, ◌&&◌, eqb, pos, negsuc, Float}
use Rattle.std.specs.Float.{fin, binary32}
use Rattle.std.specs.Float.Ieee.{mul, le}
use Rattle.weights.specs.declared.Settings.{Settings}
use Rattle.weights.specs.Weights.{one_f, chroma_weight, distortion_weight}

-- a float from lo to hi: a NaN is none
abbrev pub within : Float → Float → Float → Bool
within lo hi x = le lo x && le x hi

-- 0 to 25
unfoldable pub is_distance : Float → Bool
is_distance d = within (fin false 0 (pos 0)) (fin false 25 (pos 0)) d

-- Check 10 of the settings: lambda in 2^-20 to 2^20, penalty and channel weight in 2^-10 to 2^10, distance in 0 to 25.
unfoldable pub valid_settings : Settings → Bool
unfolding is_distance
valid_settings s =
    within (fin false 1 (negsuc 19)) (fin false 1 (pos 20)) s.lambda && within (fin false 1 (negsuc 9)) (fin false 1 (pos 10)) s.penalty
    && within (fin false 1 (negsuc 9)) (fin false 1 (pos 10)) s.channel_weight
    && is_distance s.distance

-- The part of a position's weight that is the same at all: the channel weight, for the channels 0 and 2 times the chroma weight.
unfoldable pub channel_scale : Settings → ℕ → Float
channel_scale s channel = mul binary32 s.channel_weight (cond (eqb channel 1) one_f (chroma_weight s.distance))

-- The weight of window position i from that part: past the base length a position weighs as at it.
abbrev pub scaled_weight : Float → ℕ → ℕ → Float → Float
scaled_weight scale i base distance = mul binary32 scale (distortion_weight (min i base) base distance)

-- The weight of window position i with the base length `base`.
unfoldable pub weight_at : Settings → ℕ → ℕ → ℕ → Float
unfolding channel_scale
weight_at s channel base i = scaled_weight (channel_scale s channel) i base s.distance

-- The rate of a nonzero level where the input has 0.
abbrev pub restore_rate : Settings → Float
restore_rate s = mul binary32 s.lambda s.penalty
