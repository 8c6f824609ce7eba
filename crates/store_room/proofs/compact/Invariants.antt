use Rattle.store_room.proofs.Packing.{Packing}
use Rattle.store_room.proofs.compact.Given as given

abbrev pub invariant-loop-i : given.invariant-loop-i
invariant-loop-i l = Packing l.initial.room l.initial.rec l.count l.i l.room l.rec l.top
