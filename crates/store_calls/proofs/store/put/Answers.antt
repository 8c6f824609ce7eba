use Rattle.std.proofs.Common.{◌≡◌, Err, arith}
use Rattle.store_map.specs.Store.{store_of}
use Rattle.refusals.proofs.Numbers.{number_positive}
use Rattle.store_calls.proofs.Answers.{pass-asks, live-within, others-within, lent-right, lent-below, put-lent, put-34, put-0, hold-asks}
use borrow.Author.Rules.{rules}
use Rattle.store_calls.proofs.store.put.Goals as goal

pub returns-in_err-check_lent : goal.returns-in_err-check_lent
returns-in_err-check_lent c =
    let refusal = c.in_err-check_lent.field-0.0 in
    let told : c.from_residual.result ≡ Err refusal = grind arith in
    rw told (put-lent _ _ _ _ c.in_err-check_lent.ensures (number_positive refusal))

pub slice_reshared_read-live_but : goal.slice_reshared_read-live_but
slice_reshared_read-live_but c =
    let l = pass-asks c.args.room.now c.args.rec.now (lent-right _ _ c.in_ok-check_lent.ensures) in
    let m = l.0 in
    search rules

pub live_but-live-requires : goal.live_but-live-requires
live_but-live-requires c = let l = live-within c.args.room.now c.args.rec.now (lent-right _ _ c.in_ok-check_lent.ensures) in
    record { rec_len = pass-asks c.args.room.now c.args.rec.now (lent-right _ _ c.in_ok-check_lent.ensures); count_bound = omega arith }

pub overflow_sub-room : goal.overflow_sub-room
overflow_sub-room c =
    let l = others-within c.args.room.now c.args.rec.now (lent-right _ _ c.in_ok-check_lent.ensures) c.args.block in
    let e = (rw c.from-number.ensures at c.live_but-live.ensures) in
    omega arith

pub returns-then-tokens-room : goal.returns-then-tokens-room
returns-then-tokens-room c = put-34 _ _ _ (lent-right _ _ c.in_ok-check_lent.ensures) (lent-below _ _ c.in_ok-check_lent.ensures) _ (rw c.from-number.ensures at c.live_but-live.ensures) c.if-tokens-room.true

pub hold-requires : goal.hold-requires
hold-requires c =
    rw c.from-number.ensures (hold-asks (store_of c.args.room.now c.args.rec.now) c.args.block c.args.tokens.now (lent-right _ _ c.in_ok-check_lent.ensures) (lent-below _ _ c.in_ok-check_lent.ensures) _ (rw c.from-number.ensures at c.live_but-live.ensures) c.if-tokens-room.false)

pub returns : goal.returns
returns c = put-0 _ _ _ (lent-right _ _ c.in_ok-check_lent.ensures) (lent-below _ _ c.in_ok-check_lent.ensures) _ (rw c.from-number.ensures at c.live_but-live.ensures) c.if-tokens-room.false (rw c.from-number.ensures at c.hold.ensures)
