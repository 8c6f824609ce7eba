use Rattle.std.proofs.Common.{◌≡◌, ltb, get_or}
use Rattle.prices.specs.Checks.{each}
use Rattle.book_checks.proofs.map_below.Given as given

abbrev pub invariant-loop-entry : given.invariant-loop-entry
invariant-loop-entry l = each l.entry-index (λ j. ltb (get_or l.map j 0) l.clusters) ≡ ltb l.top l.clusters
