use Rattle.group_list.specs.Checks.{channelled}
use Rattle.group_list.proofs.Order.{Rest}
use Rattle.group_checks.proofs.channels.Given as given

abbrev pub invariant-loop-i : given.invariant-loop-i
invariant-loop-i l = Rest channelled l.words l.i
