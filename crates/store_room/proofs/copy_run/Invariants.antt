use mathlib.Core.Path.{◌≡◌}
use lib.ListN.{take, drop}
use Rattle.store_record.specs.Placed.{placed}
use Rattle.store_room.proofs.copy_run.Given as given

abbrev pub invariant-loop-i : given.invariant-loop-i
invariant-loop-i l = l.to ≡ placed l.at (take l.i (drop l.start l.from)) l.initial.to
