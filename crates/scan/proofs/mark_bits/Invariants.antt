use Prim.Native.Nat.{◌≤◌, ◌-◌}
use mathlib.Core.Path.{◌≡◌}
use lib.ListN.{length}
use Rattle.scan.specs.Marks.{bit_at, Marks}
use Rattle.scan.proofs.mark_bits.Given as given

abbrev pub invariant-loop-k : given.invariant-loop-k
invariant-loop-k l =
    (l.k ≤ length l.scan) × ((length l.words ≡ length l.initial.words) × Marks l.scan l.bad (bit_at l.words) l.k)

abbrev pub decreases-loop-k : given.decreases-loop-k
decreases-loop-k l = length l.scan - l.k
