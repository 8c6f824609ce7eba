use mathlib.Core.Path.{◌≡◌}
use lib.ListN.{take, drop}
use Rattle.store_record.specs.Placed.{placed}
use Rattle.store_room.proofs.move_down.Given as given

abbrev pub invariant-loop-i : given.invariant-loop-i
invariant-loop-i l = l.room ≡ placed l.at (take l.i (drop l.start l.initial.room)) l.initial.room
