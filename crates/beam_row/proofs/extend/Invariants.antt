use Rattle.beam_paths.specs.Path.{Path}
use Rattle.beam_paths.specs.Step.{extended}
use Rattle.beam_paths.specs.Held.{PathsFor}
use Rattle.beam_paths.specs.Entries.{KeptIs}
use Rattle.beam_row.specs.Held.{spot_of, Stands}
use Rattle.least_cost.specs.Position.{Position}
use Rattle.prices.specs.Contents.{contents}
use mathlib.Core.List.{List}
use mathlib.Core.Path.{◌≡◌}
use lib.IntN.{pos}
use lib.ListN.{get_or, take}
use Rattle.beam_row.proofs.extend.Given as given

abbrev pub invariant-loop-j : given.invariant-loop-j
invariant-loop-j l =
    (l.kept.count ≡ l.j)
    × ((q : Position) (xs : List Path) → Stands (contents l.book) (spot_of l.place l.candidates.levels.now) q → PathsFor xs l.paths
    → KeptIs q xs (extended q (get_or q.candidates 0 (pos 0)) (take l.j xs)) l.kept)
