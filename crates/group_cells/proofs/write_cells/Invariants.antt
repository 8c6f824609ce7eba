use Rattle.group_cells.specs.Grid.{Written}
use Rattle.group_cells.proofs.write_cells.Given as given

abbrev pub invariant-loop-j : given.invariant-loop-j
invariant-loop-j l = Written l.channel l.x l.y l.cx l.j l.value l.initial.cells l.cells
