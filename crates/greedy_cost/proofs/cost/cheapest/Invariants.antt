use Rattle.greedy_cost.specs.Cost.{cost_of}
use Rattle.bias.specs.Level.{is_level}
use Rattle.block.specs.Block.{Block}
use Rattle.least_cost.specs.Search.{holder}
use Rattle.prices.specs.Contents.{contents}
use Rattle.steps.specs.Place.{place_of}
use Rattle.steps.specs.Plan.{Planned}
use lib.Dec.{T}
use lib.Ieee.{inf}
use lib.ListN.{drop}
use mathlib.Core.Bool.{false}
use mathlib.Core.Path.{◌≡◌}
use Rattle.greedy_cost.proofs.cost.cheapest.Given as given

abbrev pub invariant-loop-level : given.invariant-loop-level
invariant-loop-level l =
    T (is_level l.best.choice)
    × ((b : Block) → Planned b l.plan → l.place ≡ place_of b l.plan.log2 l.i
    → holder (cost_of (contents l.book) b l.i l.around.later l.around.others l.around.front l.around.run) l.best.cost l.best.choice (drop l.level-index l.candidates.levels.now)
    ≡ holder (cost_of (contents l.book) b l.i l.around.later l.around.others l.around.front l.around.run) (inf false) l.current l.candidates.levels.now)
