use Rattle.std.proofs.Common.{◌≡◌}
use Rattle.greedy_cost.specs.Run.{run_start}
use Rattle.greedy_cost.proofs.run.run_start.Given as given

-- no level from j on is nonzero
abbrev pub invariant-loop-j : given.invariant-loop-j
invariant-loop-j l = run_start l.scan l.levels l.covered l.j ≡ run_start l.scan l.levels l.covered l.i
