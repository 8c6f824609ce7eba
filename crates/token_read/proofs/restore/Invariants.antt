use Prim.Native.Nat.{◌-◌}
use mathlib.Core.Path.{◌≡◌}
use mathlib.Core.List.{List}
use lib.IntN.{ℤ}
use lib.ListN.{length}
use Rattle.block_tokens.specs.Code.{contents}
use Rattle.block_tokens.specs.Reading.{Levels, read_tokens}
use Rattle.token_read.proofs.Restoring.{At}
use Rattle.token_read.proofs.restore.Given as given

abbrev pub invariant-loop-owed : given.invariant-loop-owed
invariant-loop-owed l =
    (qs : List ℤ) → read_tokens (contents l.code) l.layout.shape l.symbols l.bits ≡ Levels qs
    → At (contents l.code) l.layout.shape l.scan l.symbols l.bits l.initial.levels qs l.levels l.k l.prev l.owed l.i

abbrev pub decreases-loop-owed : given.decreases-loop-owed
decreases-loop-owed l = length l.scan - l.k
