use Prim.Native.Nat.{◌≤◌}
use mathlib.Core.Path.{◌≡◌}
use lib.Dec.{eqb, leb}
use lib.IntN.{pos, nat_abs}
use lib.ListN.{get_or}
use Rattle.prices.specs.Checks.{each}
use Rattle.token_bounds.proofs.all_small.Given as given

abbrev pub invariant-loop-level : given.invariant-loop-level
invariant-loop-level l = (l.bad ≤ l.level-index) × (each l.level-index (λ j. leb (nat_abs (get_or l.levels j (pos 0))) 63) ≡ eqb l.bad 0)
