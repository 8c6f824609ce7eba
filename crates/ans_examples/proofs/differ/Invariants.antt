use Rattle.std.proofs.Common.{◌≤◌}
use Rattle.ans_examples.proofs.differ.Given as given

abbrev pub invariant-loop-f : given.invariant-loop-f
invariant-loop-f l = l.n ≤ l.f
