use Prim.Native.Nat.{◌≤◌}
use mathlib.Core.Path.{◌≡◌}
use lib.Dec.{eqb}
use lib.IntN.{pos}
use lib.ListN.{get_or}
use Rattle.candidates.specs.Candidates.{is_current}
use Rattle.prices.specs.Checks.{each}
use Rattle.block_checks.proofs.all_within.Given as given

abbrev pub invariant-loop-level : given.invariant-loop-level
invariant-loop-level l = (l.bad ≤ l.level-index) × (each l.level-index (λ j. is_current (get_or l.levels j (pos 0))) ≡ eqb l.bad 0)
