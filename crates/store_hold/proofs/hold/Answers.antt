use native.Mathlib.Omega.{arith}
use Rattle.store_hold.proofs.Holding.{pre-long, pre-few, make-asks, copy-asks, write-asks, left-few, held}
use borrow.Author.Rules.{rules}
use Rattle.store_hold.proofs.hold.Goals as goal

pub bounds-rec-0 : goal.bounds-rec-0
bounds-rec-0 c =
    let l = pre-long c.args.room.now c.args.rec.now c.args.block c.args.tokens.now c.requires.0 c.requires.1.0 c.requires.1.1 in
    omega arith

pub remove-left-requires : goal.remove-left-requires
remove-left-requires c =
    (pre-long c.args.room.now c.args.rec.now c.args.block c.args.tokens.now c.requires.0 c.requires.1.0 c.requires.1.1, pre-few c.args.room.now c.args.rec.now c.args.block c.args.tokens.now c.requires.0 c.requires.1.0 c.requires.1.1)

pub make_room-at-requires : goal.make_room-at-requires
make_room-at-requires c =
    make-asks c.args.room.now c.args.rec.now c.args.block c.args.tokens.now c.requires.0 c.requires.1.0 c.requires.1.1 _ _ c.remove-left.ensures

pub copy_run-requires : goal.copy_run-requires
copy_run-requires c =
    copy-asks c.args.room.now c.args.rec.now c.args.block c.args.tokens.now c.requires.0 c.requires.1.0 c.requires.1.1 _ _ c.remove-left.ensures _ _ _ c.make_room-at.ensures

pub write_run-requires : goal.write_run-requires
write_run-requires c =
    write-asks c.args.room.now c.args.rec.now c.args.block c.args.tokens.now c.requires.0 c.requires.1.0 c.requires.1.1 _ _ c.remove-left.ensures _ _ _ c.make_room-at.ensures

pub overflow_add-rec : goal.overflow_add-rec
overflow_add-rec c =
    let f = left-few c.args.room.now c.args.rec.now c.args.block c.args.tokens.now c.requires.0 c.requires.1.0 c.requires.1.1 _ _ c.remove-left.ensures in
    omega arith

pub bounds-rec-0-2 : goal.bounds-rec-0-2
bounds-rec-0-2 c =
    let w = write-asks c.args.room.now c.args.rec.now c.args.block c.args.tokens.now c.requires.0 c.requires.1.0 c.requires.1.1 _ _ c.remove-left.ensures _ _ _ c.make_room-at.ensures in
    search rules

pub returns : goal.returns
returns c =
    held c.args.room.now c.args.rec.now c.args.block c.args.tokens.now c.requires.0 c.requires.1.0 c.requires.1.1 _ _ c.remove-left.ensures _ _ _ c.make_room-at.ensures c.copy_run.ensures c.write_run.ensures
