-- Tokens under the configurations of their contexts' clusters.
use Rattle.std.specs.Prelude.{ℕ, ◌+◌, ◌*◌, List, get_or}
use Rattle.coding.specs.Coding.{Coding}
use Rattle.coding.specs.declared.code.Code as Checked
use Rattle.packing.specs.Hybrid.{extra_value_of}
use Rattle.prices.specs.Book.{cluster_symbol, cluster_extra}
use Rattle.block_tokens.specs.Tokens.{Token}

-- what the symbols depend on: the cluster of each context, and three bytes of configuration a cluster
pub record Code : Type 0 where
  pub map : List ℕ
  pub configs : List ℕ

abbrev pub code_of : List ℕ → List ℕ → Code
code_of map configs = record { map = map; configs = configs }

abbrev pub code_in : Coding → Code
code_in k = code_of k.map k.configs

-- the code that a checked code holds
abbrev pub contents : Checked.Code → Code
contents c = code_of c.map.now c.configs.now

abbrev pub cluster_of : Code → ℕ → ℕ
cluster_of x context = get_or x.map context 0

-- the configuration (s, m, l) of a context's cluster
abbrev pub split_exponent : Code → ℕ → ℕ
split_exponent x context = get_or x.configs (3 * cluster_of x context) 0

abbrev pub msb_in_token : Code → ℕ → ℕ
msb_in_token x context = get_or x.configs (3 * cluster_of x context + 1) 0

abbrev pub lsb_in_token : Code → ℕ → ℕ
lsb_in_token x context = get_or x.configs (3 * cluster_of x context + 2) 0

-- a token's symbol and number of extra bits, as the price book has them, and the extra bits
unfoldable pub symbol_in : Code → Token → ℕ
symbol_in x t = cluster_symbol x.configs (cluster_of x t.context) t.value

unfoldable pub extra_in : Code → Token → ℕ
extra_in x t = cluster_extra x.configs (cluster_of x t.context) t.value

unfoldable pub bits_in : Code → Token → ℕ
bits_in x t =
    let at = t.context in
    extra_value_of (split_exponent x at) (msb_in_token x at) (lsb_in_token x at) t.value
