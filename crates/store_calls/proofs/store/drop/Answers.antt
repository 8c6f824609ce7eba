use Rattle.std.proofs.Common.{◌≡◌, ap, ◌∙◌, Err, arith}
use mathlib.Core.Bool.{not}
use lib.ListN.{length-set}
use borrow.Author.Rules.{rules}
use Rattle.refusals.proofs.Numbers.{number_positive}
use Rattle.store_calls.proofs.Answers.{pass-asks, lent-right, lent-below, drop-lent, drop-35, drop-0}
use Rattle.store_calls.proofs.store.drop.Goals as goal

pub returns-in_err-check_lent : goal.returns-in_err-check_lent
returns-in_err-check_lent c =
    let refusal = c.in_err-check_lent.field-0.0 in
    let told : c.from_residual.result ≡ Err refusal = grind arith in
    rw told (drop-lent _ _ _ c.in_err-check_lent.ensures (number_positive refusal))

pub bounds-rec-0 : goal.bounds-rec-0
bounds-rec-0 c =
    let l = pass-asks c.args.room.now c.args.rec.now (lent-right _ _ c.in_ok-check_lent.ensures) in
    let m = l.0 in
    search rules

pub find-requires : goal.find-requires
find-requires c = pass-asks c.args.room.now c.args.rec.now (lent-right _ _ c.in_ok-check_lent.ensures)

pub returns-then-is_none : goal.returns-then-is_none
returns-then-is_none c = drop-35 _ _ (lent-right _ _ c.in_ok-check_lent.ensures) (lent-below _ _ c.in_ok-check_lent.ensures) _ (rw c.from-number.ensures at c.find.ensures) (c.is_none.ensures ∙ ap not c.if-is_none.true)

pub remove-left-requires : goal.remove-left-requires
remove-left-requires c = pass-asks c.args.room.now c.args.rec.now (lent-right _ _ c.in_ok-check_lent.ensures)

pub bounds-rec-0-2 : goal.bounds-rec-0-2
bounds-rec-0-2 c =
    let l = pass-asks c.args.room.now c.args.rec.now (lent-right _ _ c.in_ok-check_lent.ensures) in
    let m = l.0 in
    search rules

pub shape_of-rec : goal.shape_of-rec
shape_of-rec c = simp length-set (search rules)

pub returns : goal.returns
returns c = drop-0 _ _ (lent-right _ _ c.in_ok-check_lent.ensures) (lent-below _ _ c.in_ok-check_lent.ensures) _ (rw c.from-number.ensures at c.find.ensures) (c.is_none.ensures ∙ ap not c.if-is_none.false) (rw c.from-number.ensures at c.remove-left.ensures)
