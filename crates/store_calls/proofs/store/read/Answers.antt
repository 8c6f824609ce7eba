use Rattle.std.proofs.Common.{◌≡◌, Err, arith}
use Rattle.store_map.specs.Store.{store_of}
use Rattle.refusals.proofs.Numbers.{number_positive}
use Rattle.store_calls.proofs.Answers.{pass-asks, run-within, lent-right, lent-below, read-lent, read-35, found-place, found-start, found-size, read-36, read-0}
use borrow.Author.Rules.{rules}
use Rattle.store_calls.proofs.store.read.Goals as goal

pub returns-in_err-check_lent : goal.returns-in_err-check_lent
returns-in_err-check_lent c =
    let refusal = c.in_err-check_lent.field-0.0 in
    let told : c.from_residual.result ≡ Err refusal = grind arith in
    rw told (read-lent _ _ _ _ c.in_err-check_lent.ensures (number_positive refusal))

pub bounds-rec-0 : goal.bounds-rec-0
bounds-rec-0 c =
    let l = pass-asks c.args.room.now c.args.rec.now (lent-right _ _ c.in_ok-check_lent.ensures) in
    let m = l.0 in
    search rules

pub find-requires : goal.find-requires
find-requires c = pass-asks c.args.room.now c.args.rec.now (lent-right _ _ c.in_ok-check_lent.ensures)

pub returns-in_default : goal.returns-in_default
returns-in_default c = read-35 _ _ _ (lent-right _ _ c.in_ok-check_lent.ensures) (lent-below _ _ c.in_ok-check_lent.ensures) _ (rw c.from.ensures at c.find.ensures) c.in_default.is

pub run_at-run-requires : goal.run_at-run-requires
run_at-run-requires c =
    let place = found-place (store_of c.args.room.now c.args.rec.now) c.args.block c.args.tokens.now (lent-right _ _ c.in_ok-check_lent.ensures) (lent-below _ _ c.in_ok-check_lent.ensures) _ (rw c.from.ensures at c.find.ensures) _ c.in-Some.is in
    search rules

pub returns-then-size-tokens : goal.returns-then-size-tokens
returns-then-size-tokens c = read-36 _ _ _ (lent-right _ _ c.in_ok-check_lent.ensures) (lent-below _ _ c.in_ok-check_lent.ensures) _ (rw c.from.ensures at c.find.ensures) _ c.in-Some.is (rw c.run_at-run.ensures at c.if-size-tokens.true)

pub copy_run-requires : goal.copy_run-requires
copy_run-requires c =
    let ok = (lent-right _ _ c.in_ok-check_lent.ensures) in
    let s = store_of c.args.room.now c.args.rec.now in
    let w = run-within c.args.room.now c.args.rec.now ok c.args.block in
    let a = found-start s c.args.block c.args.tokens.now ok (lent-below _ _ c.in_ok-check_lent.ensures) _ (rw c.from.ensures at c.find.ensures) _ c.in-Some.is in
    let d = found-size s c.args.block c.args.tokens.now ok (lent-below _ _ c.in_ok-check_lent.ensures) _ (rw c.from.ensures at c.find.ensures) _ c.in-Some.is in
    let m = c.if-size-tokens.false in
    rw c.run_at-run.ensures ((rw (a, d) at w, omega (arith, rw c.run_at-run.ensures at m)))

pub returns : goal.returns
returns c = rw c.run_at-run.ensures (read-0 _ _ _ (lent-right _ _ c.in_ok-check_lent.ensures) (lent-below _ _ c.in_ok-check_lent.ensures) _ (rw c.from.ensures at c.find.ensures) _ c.in-Some.is (rw c.run_at-run.ensures at c.if-size-tokens.false) (rw c.run_at-run.ensures at c.copy_run.ensures))
