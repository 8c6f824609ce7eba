use Rattle.beam_paths.specs.Path.{Path, Way, ways_of}
use Rattle.beam_paths.specs.Held.{no_path}
use Rattle.beam_row.specs.Held.{spot_of, Stands}
use Rattle.beam_row.specs.Entries.{Leads, BothOf}
use Rattle.least_cost.specs.Position.{Position}
use Rattle.prices.specs.Contents.{contents}
use mathlib.Core.List.{List, ◌++◌}
use mathlib.Core.Path.{◌≡◌}
use lib.ListN.{get_or, take}
use Rattle.beam_row.proofs.ways.try_levels.Given as given

abbrev pub invariant-loop-i : given.invariant-loop-i
invariant-loop-i l =
    (l.best.remaining ≡ l.initial.best.remaining)
    × ((q : Position) (xs : List Path) (ws : List Way) → Stands (contents l.weighed.book.now) (spot_of l.weighed.place l.weighed.candidates.levels.now) q → Leads xs l.j l.nonzero l.tail l.initial.best.remaining → BothOf q xs ws l.initial.best
    → BothOf q xs (ws ++ ways_of (get_or xs l.j no_path) (take l.i q.candidates)) l.best)
