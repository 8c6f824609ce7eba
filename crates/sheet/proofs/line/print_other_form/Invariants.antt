use Rattle.std.proofs.Common.{◌≡◌, false}
use Rattle.sheet.specs.Line.{printed_line, laid}
use Rattle.sheet.proofs.line.print_other_form.Given as given

abbrev pub invariant-loop-i : given.invariant-loop-i
invariant-loop-i l = l.out ≡ laid (printed_line false l.line) l.at l.i l.initial.out
