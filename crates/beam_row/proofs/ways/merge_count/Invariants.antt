use Rattle.beam_paths.specs.Path.{Path, ways}
use Rattle.beam_paths.specs.Held.{PathsFor}
use Rattle.beam_row.specs.Held.{spot_of, Stands}
use Rattle.beam_row.specs.Entries.{BothOf}
use Rattle.least_cost.specs.Position.{Position}
use Rattle.prices.specs.Contents.{contents}
use mathlib.Core.List.{List}
use mathlib.Core.Path.{◌≡◌}
use lib.ListN.{take}
use Rattle.beam_row.proofs.ways.merge_count.Given as given

abbrev pub invariant-loop-j : given.invariant-loop-j
invariant-loop-j l =
    (l.entry.remaining ≡ l.n)
    × ((q : Position) (xs : List Path) → Stands (contents l.weighed.book.now) (spot_of l.weighed.place l.weighed.candidates.levels.now) q → PathsFor xs l.paths → BothOf q xs (ways (take l.j xs) q.candidates) l.entry)
