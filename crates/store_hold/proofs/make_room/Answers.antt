use native.Mathlib.Omega.{arith}
use Rattle.store_hold.proofs.Holding.{end-within, behind-made, moved_made}
use Rattle.store_hold.proofs.make_room.Goals as goal

pub end_of-end-requires : goal.end_of-end-requires
end_of-end-requires c = let w = end-within c.args.room.now c.args.rec.now c.args.count c.requires.1.1 in
    record { rec_len = (c.requires.0, c.requires.1.0); count_bound = omega arith }

pub overflow_sub-room : goal.overflow_sub-room
overflow_sub-room c =
    let w = end-within c.args.room.now c.args.rec.now c.args.count c.requires.1.1 in
    let e = c.end_of-end.ensures in
    omega arith

pub returns-then-n-room : goal.returns-then-n-room
returns-then-n-room c =
    let w = end-within c.args.room.now c.args.rec.now c.args.count c.requires.1.1 in
    behind-made _ _ _ _ _ c.end_of-end.ensures (rw c.end_of-end.ensures w) c.if-n-room.true

pub returns : goal.returns
returns c =
    let w = end-within c.args.room.now c.args.rec.now c.args.count c.requires.1.1 in
    let e = c.end_of-end.ensures in
    moved_made _ _ _ _ _ e (rw e w) c.if-n-room.false c.compact.ensures
