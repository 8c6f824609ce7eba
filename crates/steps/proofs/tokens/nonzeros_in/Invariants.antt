use Rattle.std.proofs.Common.{◌≡◌, ◌+◌, length, get_or, pos}
use Rattle.least_cost.specs.Position.{nz}
use Rattle.scan.specs.Scan.{sum_to}
use Rattle.steps.proofs.tokens.nonzeros_in.Given as given

-- what is left of the length once each 0 so far took one off
abbrev pub invariant-loop-level : given.invariant-loop-level
invariant-loop-level l = l.count + l.level-index ≡ length l.levels + sum_to (λ j. nz (get_or l.levels j (pos 0))) l.level-index
