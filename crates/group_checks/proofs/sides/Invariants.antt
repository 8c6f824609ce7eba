use Rattle.group_list.specs.Checks.{sided}
use Rattle.group_list.proofs.Order.{Rest}
use Rattle.group_checks.proofs.sides.Given as given

abbrev pub invariant-loop-i : given.invariant-loop-i
invariant-loop-i l = Rest sided l.words l.i
