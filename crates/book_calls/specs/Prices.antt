-- What the price calls promise (document 01, module 4); what they answer is `price_reply` and `pair_reply` of `price_leaves`. The checks of a book, and what filling and building leave, are those of `prices` and `book_build`.
use Rattle.std.specs.Prelude.{ℕ, ◌+◌, ◌<◌, ◌≡◌, false, ◌&&◌, get_or, Float, Result}
use Rattle.std.specs.Float.{inf}
use Rattle.prices.specs.Book.{Book, cluster_symbol, price}
use Rattle.price_leaves.specs.Leaf.{in_domain, price_reply, both, pair_reply}
use Rattle.prices.specs.declared.Pair.{Pair}
use Rattle.refusals.specs.declared.Refusal.{Refusal}
use Rattle.refusals.specs.Numbers.{answered}

-- the symbol of value v in a context
unfoldable pub symbol_in : Book → ℕ → ℕ → ℕ
symbol_in b context v = cluster_symbol b.configs (get_or b.map context 0) v

-- The reply; and what that is of a value whose symbol is above 127: +infinity, for there is no word.
pub record Priced (b : Book) (context v : ℕ) (r : Result Float Refusal) : Type 0 where
  pub reply : r ≡ price_reply b context v
  pub no_word : 127 < symbol_in b context v → r ≡ answered (in_domain b context v) (inf false)

-- The same of a pair, each price by itself.
pub record PairPriced (b : Book) (context v : ℕ) (r : Result Pair Refusal) : Type 0 where
  pub reply : r ≡ pair_reply b context v
  pub no_first_word : 127 < symbol_in b context v → r ≡ both (in_domain b context v && in_domain b (context + 1) v) (inf false) (price b (context + 1) v)
  pub no_second_word : 127 < symbol_in b (context + 1) v → r ≡ both (in_domain b context v && in_domain b (context + 1) v) (price b context v) (inf false)
