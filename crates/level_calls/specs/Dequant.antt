-- What the call on a biased level answers (document 01, module 3).
use Rattle.std.specs.Prelude.{◌&&◌, ℤ, Float, Result}
use Rattle.bias.specs.declared.DequantBias.{DequantBias}
use Rattle.bias.specs.Level.{biased, is_level, valid_bias}
use Rattle.refusals.specs.declared.Refusal.{Refusal}
use Rattle.refusals.specs.Numbers.{answered}

-- a level within ±32,768, and a record that passes check 10
unfoldable pub level_reply : DequantBias → ℤ → Result Float Refusal
level_reply bias q = answered (is_level q && valid_bias bias) (biased bias q)
