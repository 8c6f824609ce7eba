use mathlib.Core.Path.{◌≡◌, ◌∙◌, sym}
use native.Mathlib.Numerals.{add-one}
use native.Mathlib.Omega.{arith}
use Rattle.sheet.proofs.Columns.{agrees-none, agrees-more, differs}
use Rattle.sheet.specs.Column.{is_column}
use borrow.Author.Rules.{rules}
use Rattle.sheet.proofs.column.is_column.Goals as goal

pub loop-i-init : goal.loop-i-init
loop-i-init c = agrees-none _ _ _

pub returns-then-line-at : goal.returns-then-line-at
unfolding is_column
returns-then-line-at c =
    rw (← c.column_value-n.ensures.0)
    (sym (differs _ _ _ 6 c.loop-i.i c.loop-i-test.true (λ e. c.if-line-at.true (e ∙ sym c.column_char.ensures))))

pub loop-i-preserved : goal.loop-i-preserved
loop-i-preserved c = rw add-one (agrees-more _ _ _ _ c.loop-i.invariant (c.if-line-at.false ∙ c.column_char.ensures))

pub returns : goal.returns
unfolding is_column
returns c =
    let at6 : c.loop-i.i ≡ 6 = omega arith in
    rw (← c.column_value-n.ensures.0) (sym (rw at6 at c.loop-i.invariant))
