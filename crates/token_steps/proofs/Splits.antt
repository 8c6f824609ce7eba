-- What the code's copy (s, m, l) of a context's configuration gives is what the context's gives. Assumes nothing.
use Prim.Native.Nat.{ℕ, ◌+◌, ◌*◌, ◌<◌}
use mathlib.Core.Path.{◌≡◌}
use mathlib.Core.Bool.{true}
use Rattle.std.specs.Prelude.{Option, SomeIff}
use mathlib.Core.List.{List}
use native.Mathlib.Omega.{arith}
use lib.ListN.{length}
use Rattle.coding.specs.Coding.{Coded}
use Rattle.packing.specs.Hybrid.{split, read_hybrid, is_split}
use Rattle.packing.specs.declared.HybridUintConfig.{HybridUintConfig}
use Rattle.packing.specs.declared.Split.{Split}
use Rattle.prices.specs.Book.{cluster_valid, cluster_symbol, cluster_extra}
use Rattle.block_tokens.specs.Code.{Code, code_of, cluster_of, symbol_in, extra_in, bits_in}
use Rattle.token_steps.specs.Steps.{ConfigAt, SplitIn}
use Rattle.block_tokens.specs.Reading.{Pair, splits_in, value_in}

module _ {x : Code} {at : ℕ} {r : HybridUintConfig} (c : ConfigAt x at r) where
  pub split-copy : (v : ℕ) (s : Split) → s ≡ split r.split_exponent r.msb_in_token r.lsb_in_token v → SplitIn x (record { context = at; value = v }) s
  unfolding symbol_in extra_in bits_in cluster_symbol cluster_extra split
  split-copy v s e =
      record {
        symbol_is = rw (e, c.split_exponent_is, c.msb_is, c.lsb_is);
        extra_is = rw (e, c.split_exponent_is, c.msb_is, c.lsb_is);
        bits_are = rw (e, c.split_exponent_is, c.msb_is, c.lsb_is);
      }

  pub value-copy : (p : Pair) (o : Option ℕ) → SomeIff o (is_split r.split_exponent r.msb_in_token r.lsb_in_token p.symbol p.bits ≡ true) (read_hybrid r.split_exponent r.msb_in_token r.lsb_in_token p.symbol p.bits)
      → SomeIff o (splits_in x at p ≡ true) (value_in x at p)
  unfolding splits_in value_in
  value-copy p o e = rw (c.split_exponent_is, c.msb_is, c.lsb_is) at e

  pub splits-copy : (p : Pair) → splits_in x at p ≡ true → is_split r.split_exponent r.msb_in_token r.lsb_in_token p.symbol p.bits ≡ true
  unfolding splits_in
  splits-copy p e = rw (c.split_exponent_is, c.msb_is, c.lsb_is) e

  pub read-copy : (p : Pair) (v : ℕ) → v ≡ read_hybrid r.split_exponent r.msb_in_token r.lsb_in_token p.symbol p.bits → v ≡ value_in x at p
  unfolding value_in
  read-copy p v e = rw (c.split_exponent_is, c.msb_is, c.lsb_is) at e

-- a context's cluster is there, and its configuration is valid
module _ {map configs : List ℕ} (k : Coded map configs) (at : ℕ) (below : at < 14850) where
  pub in-configs : 3 * cluster_of (code_of map configs) at + 2 < length configs
  in-configs = let low = k.codes.cluster at below in omega (arith, k.codes.configured)

  pub valid-at : cluster_valid configs (cluster_of (code_of map configs) at) ≡ true
  valid-at = k.codes.valid _ (k.codes.cluster at below)
