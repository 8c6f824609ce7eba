-- What checks 1 to 5 leave of one cluster.
use Rattle.std.specs.Prelude.{ℕ, ◌+◌, ◌*◌, ◌%◌, ◌^◌, ◌<◌, ◌≡◌, Bool, true, false, cond, ◌&&◌, List, eqb, length, pos, Float}
use Rattle.std.specs.Float.{fin, binary32}
use Rattle.std.specs.Float.Ieee.{lt, add, of_int}
use Rattle.prices.specs.Book.{at, cluster_valid}
use Rattle.prices.specs.Checks.{each, symbol_price, same_bits}

-- Cluster k lies within the lists, its configuration is valid, and its 128 prices are symbol prices.
pub record Row (configs : List ℕ) (symbols ready : List Float) (k : ℕ) : Type 0 where
  pub configured : 3 * k + 2 < length configs
  pub priced : 128 * k + 127 < length symbols
  pub kept : 256 * k + 255 < length ready
  pub valid : cluster_valid configs k ≡ true
  pub prices : (i : ℕ) → i < 128 → symbol_price (at symbols (128 * k + i)) ≡ true

-- Ready price to + i is symbol price from + i plus the extra bits.
unfoldable pub line_kept : List Float → List Float → ℕ → ℕ → Float → ℕ → Bool
line_kept symbols ready from to extra i = same_bits (at ready (to + i)) (add binary32 (at symbols (from + i)) extra)

-- above 0, and so no NaN and neither of the zeros
unfoldable pub above : Float → Bool
above x = lt (fin false 0 (pos 0)) x

-- The four ready prices from `to` on are these.
unfoldable pub four_kept : List Float → ℕ → Float → Float → Float → Float → Bool
four_kept ready to a b c d = same_bits (at ready to) a && same_bits (at ready (to + 1)) b && same_bits (at ready (to + 2)) c && same_bits (at ready (to + 3)) d

-- They are the prices of the four symbols from `from` on, plus the extra bits.
unfoldable pub line_four : List Float → List Float → ℕ → ℕ → Float → Bool
line_four symbols ready from to extra = four_kept ready to (add binary32 (at symbols from) extra) (add binary32 (at symbols (from + 1)) extra) (add binary32 (at symbols (from + 2)) extra) (add binary32 (at symbols (from + 3)) extra)

-- Ready price to + i is the price of one of 2 ^ l symbols from `from` on, plus the extra bits: the symbols take turns.
unfoldable pub run_kept : List Float → List Float → ℕ → ℕ → ℕ → ℕ → ℕ → Bool
run_kept symbols ready from to l bits i = same_bits (at ready (to + i)) (add binary32 (at symbols (from + i % 2 ^ l)) (of_int binary32 (pos bits)))

-- 2 ^ m runs of 2 ^ (l + bits) ready prices follow one another, each with the next 2 ^ l symbols.
unfoldable pub octave_kept : List Float → List Float → ℕ → ℕ → ℕ → ℕ → ℕ → Bool
octave_kept symbols ready from to m l bits = each (2 ^ m) (λ i. each (2 ^ (l + bits)) (run_kept symbols ready (from + i * 2 ^ l) (to + i * 2 ^ (l + bits)) l bits))

-- How many of the octaves below 256 (values with the same top bit) have symbols below 128, where `both` = m + l bits of a value stand in its symbol. An octave's symbols lie
-- all below 128 or all past it, and past it those of 6,m,6-m alone, with top bit 7.
unfoldable pub priced_octaves : ℕ → ℕ
priced_octaves both = cond (eqb both 6) 7 8
