use mathlib.Core.Path.{◌≡◌}
use mathlib.Core.Bool.{true}
use Rattle.sheet.specs.Column.{agrees}
use Rattle.sheet.proofs.column.is_column.Given as given

abbrev pub invariant-loop-i : given.invariant-loop-i
invariant-loop-i l = agrees l.line l.at l.n l.i ≡ true
