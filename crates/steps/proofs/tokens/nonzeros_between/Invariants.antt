use Rattle.std.proofs.Common.{◌≡◌, ◌+◌, ◌-◌}
use Rattle.block.specs.Block.{nonzeros_among}
use Rattle.steps.proofs.tokens.nonzeros_between.Given as given

abbrev pub invariant-loop-k : given.invariant-loop-k
invariant-loop-k l = l.count + nonzeros_among l.scan l.levels l.k (l.end - l.k) ≡ nonzeros_among l.scan l.levels l.from (l.end - l.from)
