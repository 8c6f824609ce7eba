use Rattle.std.proofs.Common.{◌≤◌}
use Rattle.context_sheet.proofs.main.Given as given

abbrev pub invariant-loop : given.invariant-loop
invariant-loop l = l.held ≤ 25
