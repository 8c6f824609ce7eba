use Prim.Native.Nat.{◌-◌}
use mathlib.Core.Path.{◌≡◌}
use Rattle.store_record.specs.Marks.{passes}
use Rattle.store_record.specs.Runs.{runs_from}
use Rattle.store_record.proofs.runs_pass.Given as given

abbrev pub invariant-loop-i : given.invariant-loop-i
invariant-loop-i l = passes l.end l.size l.marks (runs_from l.rec l.i (l.count - l.i)) ≡ passes 0 l.size l.initial.marks (runs_from l.rec 0 l.count)
