-- Checks 1 to 6 of document 01, in the order in which they are made.
use Rattle.std.specs.Prelude.{ℕ, zero, suc, ◌+◌, ◌*◌, ◌<◌, ◌≡◌, List, Bool, true, false, cond, ◌&&◌, ◌||◌, leb, ltb, eqb, pos, length, get_or, Float}
use Rattle.std.specs.Float.{inf, fin, binary32}
use Rattle.std.specs.Float.Ieee.{le, eq, to_bits}
use Rattle.prices.specs.Book.{Book, at, cluster_valid, cluster_price}

-- p holds of each number below n
unfoldable pub each : ℕ → (ℕ → Bool) → Bool
each zero p = true
each (suc n) p = each n p && p n

-- A symbol price: at least 0.0 (and so no NaN), and at most 1,024.0 or +infinity.
unfoldable pub symbol_price : Float → Bool
symbol_price x = le (fin false 0 (pos 0)) x && (le x (fin false 1 (pos 10)) || eq x (inf false))

-- the same bit pattern
unfoldable pub same_bits : Float → Float → Bool
same_bits x y = eqb (to_bits binary32 x) (to_bits binary32 y)

-- 1: 14,850 contexts, and 1 to 256 clusters
unfoldable pub check1 : Book → Bool
check1 b = eqb (length b.map) 14850 && leb 1 b.clusters && leb b.clusters 256

-- 2: three bytes of configuration, 128 symbol prices and 256 ready prices a cluster
unfoldable pub check2 : Book → Bool
check2 b = eqb (length b.configs) (3 * b.clusters) && eqb (length b.symbols) (128 * b.clusters) && eqb (length b.ready) (256 * b.clusters)

-- each entry of the map is below n
unfoldable pub map_below : ℕ → List ℕ → Bool
map_below n map = each (length map) (λ i. ltb (get_or map i 0) n)

-- 3: each context has a cluster
unfoldable pub check3 : Book → Bool
check3 b = map_below b.clusters b.map

-- 4: each configuration is valid
unfoldable pub check4 : Book → Bool
check4 b = each b.clusters (cluster_valid b.configs)

-- each entry is a symbol price
unfoldable pub all_priced : List Float → Bool
all_priced symbols = each (length symbols) (λ i. symbol_price (at symbols i))

-- 5: each symbol price is one
unfoldable pub check5 : Book → Bool
check5 b = all_priced b.symbols

-- the 256 ready prices of cluster k have the bits of the prices
unfoldable pub row_kept : List ℕ → List Float → List Float → ℕ → Bool
row_kept configs symbols ready k = each 256 (λ v. same_bits (at ready (256 * k + v)) (cluster_price configs symbols k v))

-- what the checks say of one cluster: its bytes and prices are there, its configuration is valid, its ready prices are its prices
pub record ClusterPassed (configs : List ℕ) (symbols ready : List Float) (k : ℕ) : Type 0 where
  pub few : k < 256
  pub configs_long : 3 * k + 2 < length configs
  pub symbols_long : 128 * k + 127 < length symbols
  pub ready_long : 256 * k + 255 < length ready
  pub valid : cluster_valid configs k ≡ true
  pub kept : (v : ℕ) → v < 256 → same_bits (at ready (256 * k + v)) (cluster_price configs symbols k v) ≡ true

-- 6: each ready price has the bits of the price
unfoldable pub check6 : Book → Bool
check6 b = each b.clusters (row_kept b.configs b.symbols b.ready)

-- The number of the first check among 1 and 2 that a book fails, else what comes after them.
unfoldable pub first_two : Book → ℕ → ℕ
first_two b later = cond (check1 b) (cond (check2 b) later 2) 1

-- The same for checks 1 to 5.
unfoldable pub first_five : Book → ℕ → ℕ
first_five b later = first_two b (cond (check3 b) (cond (check4 b) (cond (check5 b) later 5) 4) 3)

-- What filling the ready prices refuses: checks 1 to 5; 0 where none fails.
unfoldable pub fill_refusal : Book → ℕ
fill_refusal b = first_five b 0

-- What a search refuses of a book: checks 1 to 6.
unfoldable pub book_refusal : Book → ℕ
book_refusal b = first_five b (cond (check6 b) 0 6)
