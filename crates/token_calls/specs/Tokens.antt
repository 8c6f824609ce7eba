-- What the calls on packing and splitting answer (document 01, module 1).
use Rattle.std.specs.Prelude.{ℕ, ◌&&◌, leb, ℤ, Result}
use Rattle.packing.specs.declared.HybridUintConfig.{HybridUintConfig}
use Rattle.packing.specs.declared.Split.{Split}
use Rattle.packing.specs.Signed.{pack_signed}
use Rattle.packing.specs.Hybrid.{split, valid_config}
use Rattle.bias.specs.Level.{is_level}
use Rattle.refusals.specs.declared.Refusal.{Refusal}
use Rattle.refusals.specs.Numbers.{answered}

-- a level within ±32,768
unfoldable pub pack_reply : ℤ → Result ℕ Refusal
pack_reply level = answered (is_level level) (pack_signed level)

-- a value of at most 131,071, and a configuration that passes check 4
unfoldable pub split_reply : ℕ → HybridUintConfig → Result Split Refusal
split_reply value config =
    let s = config.split_exponent in
    let m = config.msb_in_token in
    let l = config.lsb_in_token in
    answered (leb value 131071 && valid_config s m l) (split s m l value)
