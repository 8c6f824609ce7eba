-- What tokens use of a code, as the Rust's `AdaptiveRate::add` counts it: for each token one symbol of its context's cluster, a symbol above 127 being
-- counted as 127, and its extra bits.
use Rattle.std.specs.Prelude.{ℕ, zero, suc, ◌+◌, ◌*◌, min, cond, List, eqb, get_or}
use Rattle.prices.specs.Book.{cluster_symbol, cluster_extra}

-- The cluster of each context (`map`) and three bytes of configuration a cluster (`configs`) are the code's.

-- tokens as two lists: the context and the value of each
pub record Tokens : Type 0 where
  pub contexts : List ℕ
  pub values : List ℕ

abbrev pub tokens_of : List ℕ → List ℕ → Tokens
tokens_of contexts values = record { contexts = contexts; values = values }

-- the cluster of token i
unfoldable pub cluster_at : List ℕ → Tokens → ℕ → ℕ
cluster_at map t i = get_or map (get_or t.contexts i 0) 0

-- the place where token i is counted: 128 places a cluster
unfoldable pub place_at : List ℕ → List ℕ → Tokens → ℕ → ℕ
place_at map configs t i = 128 * cluster_at map t i + min (cluster_symbol configs (cluster_at map t i) (get_or t.values i 0)) 127

-- how many extra bits it has
unfoldable pub extra_at : List ℕ → List ℕ → Tokens → ℕ → ℕ
extra_at map configs t i = cluster_extra configs (cluster_at map t i) (get_or t.values i 0)

-- how many of the first n tokens are counted at place s
unfoldable pub used_at : List ℕ → List ℕ → Tokens → ℕ → ℕ → ℕ
used_at map configs t zero s = 0
used_at map configs t (suc n) s = cond (eqb (place_at map configs t n) s) 1 0 + used_at map configs t n s

-- the extra bits of the first n tokens
unfoldable pub extra_used : List ℕ → List ℕ → Tokens → ℕ → ℕ
extra_used map configs t zero = 0
extra_used map configs t (suc n) = extra_at map configs t n + extra_used map configs t n
