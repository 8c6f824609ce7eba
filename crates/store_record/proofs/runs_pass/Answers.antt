use mathlib.Core.Path.{sym, ◌∙◌}
use Rattle.store_record.proofs.Marks.{misfit, met, fresh, through, fits-number, fits-end}
use borrow.Author.Rules.{rules}
use Rattle.store_record.proofs.runs_pass.Goals as goal

pub returns-then-not-run_fits : goal.returns-then-not-run_fits
returns-then-not-run_fits c = misfit _ _ _ _ _ _ c.loop-i.invariant c.loop-i-test.true (rw c.run_at-run.ensures at (sym c.run_fits.ensures ∙ c.if-not-run_fits.true))

pub bounds-marks-number : goal.bounds-marks-number
bounds-marks-number c =
    let low = fits-number _ _ _ (rw c.run_at-run.ensures at (sym c.run_fits.ensures ∙ c.if-not-run_fits.false)) in
    search rules

pub returns-then-marks-number-ne0 : goal.returns-then-marks-number-ne0
returns-then-marks-number-ne0 c = met _ _ _ _ _ _ c.loop-i.invariant c.loop-i-test.true (rw c.run_at-run.ensures at c.if-marks-number-ne0.true)

pub bounds-marks-number-in-loop-i : goal.bounds-marks-number-in-loop-i
bounds-marks-number-in-loop-i c =
    let low = fits-number _ _ _ (rw c.run_at-run.ensures at (sym c.run_fits.ensures ∙ c.if-not-run_fits.false)) in
    search rules

pub overflow_add-end : goal.overflow_add-end
overflow_add-end c =
    let low = fits-end _ _ _ (rw c.run_at-run.ensures at (sym c.run_fits.ensures ∙ c.if-not-run_fits.false)) in
    search rules

pub loop-i-preserved : goal.loop-i-preserved
loop-i-preserved c = rw c.run_at-run.ensures (fresh _ _ _ _ _ _ c.loop-i.invariant c.loop-i-test.true (rw c.run_at-run.ensures at (sym c.run_fits.ensures ∙ c.if-not-run_fits.false)) (rw c.run_at-run.ensures at c.if-marks-number-ne0.false))

pub returns : goal.returns
returns c = through _ _ _ _ _ _ c.loop-i.invariant c.loop-i-test.false
