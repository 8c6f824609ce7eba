use Prim.Native.Nat.{ℕ, ◌+◌, ◌*◌}
use mathlib.Core.Path.{◌≡◌}
use mathlib.Core.Bool.{true}
use mathlib.Core.List.{List}
use lib.ListN.{get_or}
use Rattle.packing.specs.Hybrid.{valid_config, split}
use Rattle.packing.specs.declared.Split.{Split}
use Rattle.prices.specs.Book.{cluster_valid, cluster_symbol, cluster_extra}
use Rattle.prices.proofs.cluster_split.Goals as goal

-- the split of v under the cluster's configuration, of which the code has a copy (s, m, l)
module _ (configs : List ℕ) (k v s m l : ℕ) (es : s ≡ get_or configs (3 * k) 0) (em : m ≡ get_or configs (3 * k + 1) 0) (el : l ≡ get_or configs (3 * k + 2) 0) where
  valid-copy : cluster_valid configs k ≡ true → valid_config s m l ≡ true
  unfolding cluster_valid
  valid-copy e = rw (es, em, el) e

  symbol-copy : (r : Split) → r ≡ split s m l v → r.symbol ≡ cluster_symbol configs k v
  unfolding cluster_symbol split
  symbol-copy r e = rw (e, es, em, el)

  extra-copy : (r : Split) → r ≡ split s m l v → r.extra_bits ≡ cluster_extra configs k v
  unfolding cluster_extra split
  extra-copy r e = rw (e, es, em, el)

pub uint_encode_with_config-requires : goal.uint_encode_with_config-requires
uint_encode_with_config-requires c = let start = c.before.before in
    let e = c.config_of.ensures in
    record { value_bound = start.requires.value_bound; lsb_in_token_value = valid-copy start.args.configs.now start.args.cluster 0 _ _ _ e.split_exponent_value e.msb_in_token_value e.lsb_in_token_value start.requires.cluster_value }

pub returns : goal.returns
returns c = let a = c.args in
    let e = c.config_of.ensures in
    record { symbol_value = symbol-copy a.configs.now a.cluster a.value _ _ _ e.split_exponent_value e.msb_in_token_value e.lsb_in_token_value _ c.uint_encode_with_config.ensures; extra_bits_value = extra-copy a.configs.now a.cluster a.value _ _ _ e.split_exponent_value e.msb_in_token_value e.lsb_in_token_value _ c.uint_encode_with_config.ensures }
