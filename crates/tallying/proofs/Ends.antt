-- Where a loop ends: what was counted, and why it stopped. Assumes nothing.
use mathlib.Core.Path.{◌≡◌, ap₂}
use mathlib.Core.Bool.{false}
use mathlib.Core.List.{List}
use Prim.Native.Nat.{ℕ, ◌<◌}
use Rattle.tallying.specs.Uses.{Tokens}
use Rattle.tallying.specs.Tally.{tally_of, plus, minus}
use Rattle.tallying.specs.Counting.{has_room, to_add, rest_to_add, to_remove, SomeAdded, SomeRemoved}
use Rattle.tallying.specs.declared.Change.TheVariants.{Add, Remove}
use Rattle.tallying.specs.Changes.{op_of}
use Rattle.tallying.proofs.Steps.{Going}

module _ {map configs : List ℕ} {t : Tokens} {n : ℕ} {counts : List ℕ} {extra : ℕ} {held : List ℕ} {total i : ℕ} where
  pub some-added : Going (op_of Add) (to_add (tally_of counts extra)) (rest_to_add (tally_of counts extra)) map configs t n counts extra held total i
      → (i < n → has_room map configs t (to_add (tally_of counts extra)) (rest_to_add (tally_of counts extra)) i ≡ false)
      → SomeAdded map configs t n (tally_of counts extra) i (tally_of held total)
  unfolding plus
  some-added G stopped =
      record { few = G.few; tally = ap₂ (λ (c : List ℕ) (e : ℕ). tally_of c e) G.counts_are G.total-is; fitted = G.fitted; stopped = stopped }

  pub some-removed : Going (op_of Remove) (to_remove (tally_of counts extra)) extra map configs t n counts extra held total i
      → (i < n → has_room map configs t (to_remove (tally_of counts extra)) extra i ≡ false)
      → SomeRemoved map configs t n (tally_of counts extra) i (tally_of held total)
  unfolding minus
  some-removed G stopped =
      record { few = G.few; tally = ap₂ (λ (c : List ℕ) (e : ℕ). tally_of c e) G.counts_are G.total-is; fitted = G.fitted; stopped = stopped }
