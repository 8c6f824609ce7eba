use Prim.Native.Nat.{◌-◌, ◌≤◌}
use mathlib.Core.Path.{◌≡◌}
use mathlib.Core.List.{[]}
use lib.ListN.{length}
use Rattle.scan.specs.Scan.{put}
use Rattle.token_read.proofs.clear_from.Given as given

abbrev pub invariant-loop-k : given.invariant-loop-k
invariant-loop-k l = (l.k - l.from ≤ length l.scan - l.from) × (l.levels ≡ put l.scan [] l.from (l.k - l.from) l.initial.levels)
