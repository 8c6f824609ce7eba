-- What a search goes by once checks 7 to 13 have passed.
use Rattle.std.specs.Prelude.{ℕ, ◌+◌, ◌*◌, ◌≤◌, ◌<◌, ◌≡◌, true, T, length}
use Rattle.ac_context.specs.Contexts.{Covered, is_power_below}
use Rattle.bias.specs.Level.{valid_bias}
use Rattle.block.specs.Block.{Block, covered, input_at, ideal}
use Rattle.candidates.specs.Candidates.{is_current}
use Rattle.candidates.specs.Nearest.{is_ideal}
use Rattle.scan.specs.Scan.{Perm}
use Rattle.weights.specs.Settings.{valid_settings}
use Rattle.weights.specs.declared.Window.{Window}

-- a window of c covered blocks lies behind the first c scan positions and within the block
pub record Windowed (c : ℕ) (v : Window) : Type 0 where
  pub some : 1 ≤ v.length
  pub fits : c + v.length ≤ 64 * c
  pub most : v.length ≤ 1024
  pub restoring : v.restoring ≤ v.length

-- a block and a window of it
pub record Passed (v : Window) (b : Block) : Type 0 where
  pub first_side : is_power_below 6 b.shape.cx ≡ true
  pub second_side : is_power_below 6 b.shape.cy ≡ true
  pub log2 : ℕ
  pub power : Covered (covered b) log2
  pub some : 1 ≤ covered b
  pub most : covered b ≤ 1024
  pub levels_long : length b.levels ≡ 64 * covered b
  pub scan_long : length b.scan ≡ 64 * covered b
  pub source_long : length b.source ≡ 64 * covered b
  pub inverse_long : length b.inverse ≡ 64 * covered b
  pub strategy : b.shape.strategy ≤ 26
  pub channel : b.shape.channel ≤ 2
  pub settings : T (valid_settings b.settings)
  pub bias : T (valid_bias b.bias)
  pub scanned : Perm b.scan (64 * covered b)
  pub current : (k : ℕ) → covered b ≤ k → k < 64 * covered b → T (is_current (input_at b k))
  pub ideals : (i : ℕ) → i < v.length → T (is_ideal (ideal b i))
  pub window : Windowed (covered b) v
