-- The scalars of an exported call as the records of the calls below. Assumes nothing.
use Rattle.std.specs.Prelude.{ℕ, Bool, Float}
use Rattle.bias.specs.declared.DequantBias.{DequantBias}
use Rattle.block.specs.declared.Shape.{Shape}
use Rattle.packing.specs.declared.HybridUintConfig.{HybridUintConfig}
use Rattle.weights.specs.declared.Settings.{Settings}

abbrev pub shape_of : ℕ → ℕ → ℕ → ℕ → Bool → ℕ → Shape
shape_of cx cy strategy channel high predicted =
    record { cx = cx; cy = cy; strategy = strategy; channel = channel; qf_hi = high; predicted = predicted }

abbrev pub settings_of : Float → Float → Float → Float → Settings
settings_of weight lambda penalty distance = record { channel_weight = weight; lambda = lambda; penalty = penalty; distance = distance }

abbrev pub bias_of : Float → Float → DequantBias
bias_of one numerator = record { one = one; numerator = numerator }

abbrev pub config_of : ℕ → ℕ → ℕ → HybridUintConfig
config_of s m l = record { split_exponent = s; msb_in_token = m; lsb_in_token = l }
