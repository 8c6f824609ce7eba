use Prim.Native.Nat.{◌+◌}
use mathlib.Core.Path.{◌≡◌}
use mathlib.Core.Bool.{true}
use Rattle.candidates.specs.Nearest.{is_ideal}
use Rattle.prices.specs.Checks.{each}
use Rattle.block.specs.Block.{ideal_at}
use Rattle.block_checks.proofs.ideals_within.Given as given

abbrev pub invariant-loop-i : given.invariant-loop-i
invariant-loop-i l = each l.i (λ j. is_ideal (ideal_at l.block.scan.now l.block.source.now l.block.inv_qm.now l.block.scale (l.covered_blocks + j))) ≡ true
