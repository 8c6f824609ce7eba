use Rattle.beam_paths.specs.Path.{Path, ways}
use Rattle.beam_paths.specs.Step.{counts_named, merged_at}
use Rattle.beam_paths.specs.Held.{PathsFor}
use Rattle.beam_paths.specs.Entries.{KeptIs}
use Rattle.beam_row.specs.Held.{spot_of, Stands}
use Rattle.least_cost.specs.Position.{Position}
use Rattle.prices.specs.Contents.{contents}
use mathlib.Core.List.{List, []}
use mathlib.Core.Path.{◌≡◌}
use lib.ListN.{take}
use Prim.Native.Nat.{◌≤◌}
use Rattle.beam_paths.proofs.Keeping.{so_far}
use Rattle.beam_row.proofs.merge.Given as given

abbrev pub invariant-loop-n : given.invariant-loop-n
invariant-loop-n l =
    (l.many ≤ 3 → l.kept.count ≡ l.n-index)
    × ((q : Position) (xs : List Path) → Stands (contents l.fn.book) (spot_of l.fn.place l.fn.candidates.levels.now) q → PathsFor xs l.paths
    → KeptIs q xs (so_far l.many (merged_at q (ways xs q.candidates) (take l.n-index (counts_named [] xs)))) l.kept)
