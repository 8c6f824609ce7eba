use Rattle.group_list.specs.Checks as Checks
use Rattle.group_list.specs.Checks.{apart}
use Rattle.group_list.proofs.Order.{Rest}
use Rattle.group_checks.specs.Marks.{Marks}
use Rattle.group_checks.proofs.Marks.{Flag}
use Rattle.group_checks.proofs.places_on.Given as given

abbrev pub invariant-loop-i : given.invariant-loop-i
invariant-loop-i l = Marks l.words l.i l.marks × (Rest apart l.words l.i × Flag Checks.neighboured l.words l.i l.neighboured)
