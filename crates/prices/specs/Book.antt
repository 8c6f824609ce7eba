-- The price book, and the price of a value in a context (document 01, module 4).
use Rattle.std.specs.Prelude.{ℕ, ◌+◌, ◌*◌, ◌/◌, List, Bool, false, cond, ltb, pos, length, get_or, Float}
use Rattle.std.specs.Float.{nan, inf, binary32}
use Rattle.std.specs.Float.Ieee.{add, of_int}
use Rattle.packing.specs.Hybrid.{symbol_of, extra_bits_of, valid_config}

-- What a caller lends: the number of clusters, the cluster of each context, three bytes of configuration, 128 symbol prices and 256 ready prices a cluster. Any of them may be anything.
pub record Book : Type 0 where
  pub clusters : ℕ
  pub map : List ℕ
  pub configs : List ℕ
  pub symbols : List Float
  pub ready : List Float

abbrev pub book_of : ℕ → List ℕ → List ℕ → List Float → List Float → Book
book_of n map configs symbols ready = record { clusters = n; map = map; configs = configs; symbols = symbols; ready = ready }

-- The book of such lists as check 2 makes them, three bytes of configuration a cluster. A book that passed its checks is that book (`by-lists` in proofs/Passed), so that nothing below the checks is handed the number of clusters.
abbrev pub book_in : List ℕ → List ℕ → List Float → List Float → Book
book_in map configs symbols ready = book_of (length configs / 3) map configs symbols ready

-- the entry at i of a list of prices
abbrev pub at : List Float → ℕ → Float
at xs i = get_or xs i nan

-- Cluster k's configuration (s, m, l) is its three bytes. Whether it is valid, its symbol for value v, and how many extra bits go with that:
unfoldable pub cluster_valid : List ℕ → ℕ → Bool
cluster_valid configs k = valid_config (get_or configs (3 * k) 0) (get_or configs (3 * k + 1) 0) (get_or configs (3 * k + 2) 0)

unfoldable pub cluster_symbol : List ℕ → ℕ → ℕ → ℕ
cluster_symbol configs k v = symbol_of (get_or configs (3 * k) 0) (get_or configs (3 * k + 1) 0) (get_or configs (3 * k + 2) 0) v

unfoldable pub cluster_extra : List ℕ → ℕ → ℕ → ℕ
cluster_extra configs k v = extra_bits_of (get_or configs (3 * k) 0) (get_or configs (3 * k + 1) 0) (get_or configs (3 * k + 2) 0) v

-- The price of symbol t of cluster k. Above 127 there is no word for it: +infinity.
unfoldable pub symbol_at : List Float → ℕ → ℕ → Float
symbol_at symbols k t = cond (ltb t 128) (at symbols (128 * k + t)) (inf false)

-- The price of value v in cluster k: its symbol's price plus its extra bits, rounded once. (+infinity plus extra bits is +infinity.)
unfoldable pub cluster_price : List ℕ → List Float → ℕ → ℕ → Float
cluster_price configs symbols k v = add binary32 (symbol_at symbols k (cluster_symbol configs k v)) (of_int binary32 (pos (cluster_extra configs k v)))

-- The price of value v in a context. (Ready prices are a way to compute it.)
unfoldable pub price : Book → ℕ → ℕ → Float
price b context v = cluster_price b.configs b.symbols (get_or b.map context 0) v
