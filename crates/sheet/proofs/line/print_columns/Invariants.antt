use Rattle.std.proofs.Common.{◌≡◌, true}
use Rattle.sheet.specs.Line.{printed_line, laid}
use Rattle.sheet.proofs.line.print_columns.Given as given

abbrev pub invariant-loop-i : given.invariant-loop-i
invariant-loop-i l = l.out ≡ laid (printed_line true l.line) l.at l.i l.initial.out
