use Rattle.std.proofs.Common.{◌≤◌, length}
use Rattle.context_sheet.proofs.take_piece.Given as given

abbrev pub invariant-loop-byte : given.invariant-loop-byte
invariant-loop-byte l = (l.state.n ≤ 25) × (l.state.used ≤ length l.out)
