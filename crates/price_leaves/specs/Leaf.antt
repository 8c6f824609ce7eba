-- What a price call answers, whatever it is handed (document 01, module 4 and check 17).
use Rattle.std.specs.Prelude.{ℕ, ◌+◌, ◌*◌, Bool, ◌&&◌, ◌||◌, leb, ltb, Float, get_or, Result}
use Rattle.prices.specs.Book.{Book, at, symbol_at, cluster_valid, cluster_symbol, cluster_price, price}
use Rattle.prices.specs.Checks.{symbol_price, same_bits, check1, check2}
use Rattle.prices.specs.declared.Pair.{Pair}
use Rattle.refusals.specs.declared.Refusal.{Refusal}
use Rattle.refusals.specs.Numbers.{answered}

-- The entries that value v in cluster k reads pass 3 to 6: the cluster is one, its configuration is valid, the symbol's price is one (+infinity above 127, where none is read), and so is the
-- ready price of a value below 256.
unfoldable pub cluster_passes : Book → ℕ → ℕ → Bool
cluster_passes b k v =
    ltb k b.clusters
    && cluster_valid b.configs k
    && symbol_price (symbol_at b.symbols k (cluster_symbol b.configs k v))
    && (leb 256 v || same_bits (at b.ready (256 * k + v)) (cluster_price b.configs b.symbols k v))

-- the entries for value v in a context
unfoldable pub entries_pass : Book → ℕ → ℕ → Bool
entries_pass b context v = cluster_passes b (get_or b.map context 0) v

-- A price call's domain: checks 1 and 2, a context, a value of module 1, and the entries that it reads.
unfoldable pub in_domain : Book → ℕ → ℕ → Bool
in_domain b context v = check1 b && check2 b && ltb context 14850 && leb v 131071 && entries_pass b context v

-- of a context and a value in range, in a book of the right lengths
unfoldable pub entry_reply : Book → ℕ → ℕ → Result Float Refusal
entry_reply b context v = answered (entries_pass b context v) (price b context v)

-- The price, or refusal 17.
unfoldable pub price_reply : Book → ℕ → ℕ → Result Float Refusal
price_reply b context v = answered (in_domain b context v) (price b context v)

abbrev pub both : Bool → Float → Float → Result Pair Refusal
both within one two = answered within (record { first = one; second = two })

-- The prices in a context and the next one, or refusal 17.
unfoldable pub pair_reply : Book → ℕ → ℕ → Result Pair Refusal
pair_reply b context v = both (in_domain b context v && in_domain b (context + 1) v) (price b context v) (price b (context + 1) v)
