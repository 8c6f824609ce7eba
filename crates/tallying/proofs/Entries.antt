-- The counts of a tally with tokens added or taken out: as many as before, place by place. Assumes nothing.
use mathlib.Core.Path.{◌≡◌}
use mathlib.Core.List.{List}
use Prim.Native.Nat.{ℕ, ◌+◌, ◌-◌, ◌<◌}
use lib.ListN.{length, get_or}
use Rattle.tallying.specs.Uses.{Tokens, used_at}
use Rattle.tallying.specs.Tally.{Tally, plus, minus}
use Rattle.tallying.proofs.Lists.{listed-length, listed_at}

module _ (map configs : List ℕ) (t : Tokens) (n : ℕ) (y : Tally) where
  pub plus-sized : length (plus map configs t n y).counts ≡ length y.counts
  unfolding plus
  plus-sized = listed-length (λ s. get_or y.counts s 0 + used_at map configs t n s) 0 (length y.counts)

  pub minus-sized : length (minus map configs t n y).counts ≡ length y.counts
  unfolding minus
  minus-sized = listed-length (λ s. get_or y.counts s 0 - used_at map configs t n s) 0 (length y.counts)

  pub plus-at : (s : ℕ) → s < length y.counts → get_or (plus map configs t n y).counts s 0 ≡ get_or y.counts s 0 + used_at map configs t n s
  unfolding plus
  plus-at s h = listed_at (λ s. get_or y.counts s 0 + used_at map configs t n s) (length y.counts) s h

  pub minus-at : (s : ℕ) → s < length y.counts → get_or (minus map configs t n y).counts s 0 ≡ get_or y.counts s 0 - used_at map configs t n s
  unfolding minus
  minus-at s h = listed_at (λ s. get_or y.counts s 0 - used_at map configs t n s) (length y.counts) s h
