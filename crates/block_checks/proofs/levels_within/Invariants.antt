use Prim.Native.Nat.{◌+◌}
use mathlib.Core.Path.{◌≡◌}
use mathlib.Core.Bool.{true}
use Rattle.candidates.specs.Candidates.{is_current}
use Rattle.prices.specs.Checks.{each}
use Rattle.scan.specs.Scan.{level_at}
use Rattle.block_checks.proofs.levels_within.Given as given

abbrev pub invariant-loop-i : given.invariant-loop-i
invariant-loop-i l = each l.i (λ j. is_current (level_at l.scan l.levels (l.covered_blocks + j))) ≡ true
