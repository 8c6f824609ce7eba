use Prim.Native.Nat.{◌-◌}
use mathlib.Core.Path.{◌≡◌}
use lib.ListN.{length}
use Rattle.block_tokens.specs.Tokens.{levels_from}
use Rattle.block_tokens.specs.Writing.{all_within}
use Rattle.token_bounds.proofs.all_within.Given as given

abbrev pub invariant-loop-k : given.invariant-loop-k
invariant-loop-k l =
    all_within (levels_from l.fn.scan l.fn.levels l.fn.layout.covered (length l.fn.scan - l.fn.layout.covered)) ≡ all_within (levels_from l.fn.scan l.fn.levels l.k (length l.fn.scan - l.k))
