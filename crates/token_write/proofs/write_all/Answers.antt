use Rattle.std.proofs.Common.{arith}
use Rattle.block_tokens.specs.Code.{contents}
use Rattle.token_steps.proofs.Walk.{coded-small}
use Rattle.token_write.proofs.Filled.{some-token, begun, onward, room-on, written-on, number, all-written}
use Rattle.token_write.proofs.Results.{room_of}
use Rattle.token_write.proofs.write_all.Goals as goal

pub bounds-contexts-0 : goal.bounds-contexts-0
bounds-contexts-0 c = omega (arith, some-token c.args.coded.now, (room_of _ _ _ _ _ c.requires.room).contexts_long)

pub bounds-symbols-0 : goal.bounds-symbols-0
bounds-symbols-0 c = omega (arith, some-token c.args.coded.now, (room_of _ _ _ _ _ c.requires.room).symbols_long)

pub bounds-extra_bits-0 : goal.bounds-extra_bits-0
bounds-extra_bits-0 c = omega (arith, some-token c.args.coded.now, (room_of _ _ _ _ _ c.requires.room).extra_long)

pub bounds-bits-0 : goal.bounds-bits-0
bounds-bits-0 c = omega (arith, some-token c.args.coded.now, (room_of _ _ _ _ _ c.requires.room).bits_long)

pub loop-left-init : goal.loop-left-init
loop-left-init c = begun c.args.coded.now (contents c.args.code.now) _ c.count_split-split.ensures (room_of _ _ _ _ _ c.requires.room) c.first_prev-prev.ensures

pub step_at-step-requires : goal.step_at-step-requires
step_at-step-requires c =
    let n = onward c.loop-left.invariant c.loop-left-test.true in
    record { coefficient = n.coefficient; small = coded-small _ _ _ _ c.requires.within c.loop-left.invariant.at.from n.below }

pub bounds-contexts-i : goal.bounds-contexts-i
bounds-contexts-i c = (room-on c.loop-left.invariant c.loop-left-test.true).contexts_long

pub bounds-symbols-i : goal.bounds-symbols-i
bounds-symbols-i c = (room-on c.loop-left.invariant c.loop-left-test.true).symbols_long

pub bounds-extra_bits-i : goal.bounds-extra_bits-i
bounds-extra_bits-i c = (room-on c.loop-left.invariant c.loop-left-test.true).extra_long

pub bounds-bits-i : goal.bounds-bits-i
bounds-bits-i c = (room-on c.loop-left.invariant c.loop-left-test.true).bits_long

pub overflow_sub-left : goal.overflow_sub-left
overflow_sub-left c = rw c.step_at-step.ensures.nonzero_is (onward c.loop-left.invariant c.loop-left-test.true).enough

pub loop-left-smaller : goal.loop-left-smaller
loop-left-smaller c =
    omega (arith, (onward c.loop-left.invariant c.loop-left-test.true).below, c.args.coded.now.scanned.order.size)

pub loop-left-preserved : goal.loop-left-preserved
loop-left-preserved c =
    rw c.step_at-step.ensures.nonzero_is (written-on c.loop-left.invariant c.loop-left-test.true c.step_at-step.ensures)

pub returns-clause-number : goal.returns-clause-number
returns-clause-number c = number c.loop-left.invariant c.loop-left-test.false

pub returns-clause-written : goal.returns-clause-written
returns-clause-written c = all-written c.args.contexts.now c.args.symbols.now c.args.extra_bits.now c.args.bits.now _ _ _ _ c.loop-left.invariant c.loop-left-test.false
