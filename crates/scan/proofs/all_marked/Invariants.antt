use mathlib.Core.Path.{◌≡◌}
use mathlib.Core.Bool.{cond}
use Rattle.scan.specs.Marks.{marked_below, byte_at}
use Rattle.scan.proofs.all_marked.Given as given

abbrev pub invariant-loop-mark : given.invariant-loop-mark
invariant-loop-mark l = l.least ≡ cond (marked_below l.mark-index (byte_at l.marks)) 1 0
