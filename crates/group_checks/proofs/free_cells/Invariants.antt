use mathlib.Core.Path.{◌≡◌}
use mathlib.Core.Bool.{true}
use Rattle.group_checks.specs.Marks.{free_cells}
use Rattle.group_checks.proofs.free_cells.Given as given

abbrev pub invariant-loop-j : given.invariant-loop-j
invariant-loop-j l = free_cells l.marks l.channel l.x l.y l.cx l.j ≡ true
