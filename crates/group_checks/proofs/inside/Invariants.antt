use Rattle.group_list.specs.Checks.{inside}
use Rattle.group_list.proofs.Order.{Rest}
use Rattle.group_checks.proofs.inside.Given as given

abbrev pub invariant-loop-i : given.invariant-loop-i
invariant-loop-i l = Rest inside l.words l.i
