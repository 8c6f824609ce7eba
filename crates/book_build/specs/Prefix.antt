-- Symbol prices from a prefix code (document 01, module 4).
use Rattle.std.specs.Prelude.{ℕ, ◌+◌, ◌*◌, ◌/◌, List, Bool, false, not, cond, ◌&&◌, leb, eqb, pos, length, get_or, Float}
use Rattle.std.specs.Float.{inf, fin, binary32}
use Rattle.std.specs.Float.Ieee.{of_int}
use Rattle.prices.specs.Checks.{each}
use Rattle.book_build.specs.Paint.{paint}

-- A prefix code as it is lent: 128 depths a cluster, and a byte that is not 0 where the cluster's code has a single symbol. Under strict pricing a depth of 0
-- costs +infinity where the cluster has a word.
pub record Prefix : Type 0 where
  pub clusters : ℕ
  pub depths : List ℕ
  pub singles : List ℕ
  pub strict : Bool

abbrev pub prefix_of : ℕ → List ℕ → List ℕ → Bool → Prefix
prefix_of n depths singles strict = record { clusters = n; depths = depths; singles = singles; strict = strict }

-- whether cluster k has a word, a depth that is not 0. One that has none was absent where the code was trained, and gets its words later.
unfoldable pub trained : List ℕ → ℕ → Bool
trained depths k = not (each 128 (λ j. eqb (get_or depths (128 * k + j) 0) 0))

-- the price of a symbol that the code has not (depth 0): `never` where it can't be written
unfoldable pub unseen_price : Bool → Float
unseen_price never = cond never (inf false) (fin false 15 (pos 0))

-- Depth 0 costs the price of an unseen symbol; any other depth costs itself, or 0.0 where the code has a single symbol.
unfoldable pub depth_price : Float → Bool → ℕ → Float
depth_price unseen single depth = cond (eqb depth 0) unseen (cond single (fin false 0 (pos 0)) (of_int binary32 (pos depth)))

-- Symbol price i of a cluster, from its depth.
unfoldable pub row_entry : Float → Bool → List ℕ → ℕ → Float
row_entry unseen single depths i = depth_price unseen single (get_or depths i 0)

-- whether cluster k's code has a single symbol
unfoldable pub single_of : List ℕ → ℕ → Bool
single_of singles k = not (eqb (get_or singles k 0) 0)

-- Symbol price i of all, which is cluster i / 128's. A cluster without a word costs 15.0 throughout, strict or not.
unfoldable pub prefix_entry : Prefix → ℕ → Float
prefix_entry p i = row_entry (unseen_price (p.strict && trained p.depths (i / 128))) (single_of p.singles (i / 128)) p.depths i

-- Checks 1 and 2 for the builder's own lengths; 0 where neither fails.
unfoldable pub prefix_refusal : Prefix → List Float → ℕ
prefix_refusal p symbols =
    cond (leb 1 p.clusters && leb p.clusters 256)
    (cond (eqb (length p.depths) (128 * p.clusters) && eqb (length p.singles) p.clusters && eqb (length symbols) (128 * p.clusters)) 0 2)
    1

-- Every symbol price where both checks pass, else what was there.
unfoldable pub prefix_symbols : Prefix → List Float → List Float
prefix_symbols p symbols = cond (eqb (prefix_refusal p symbols) 0) (paint (prefix_entry p) 0 (128 * p.clusters) symbols) symbols
