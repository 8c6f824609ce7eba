use Rattle.std.proofs.Common.{◌∙◌, sym, refl, true, false, rules, lit≤}
use Rattle.sheet.proofs.Lines.{line-long, columns-long, printed-as}
use Rattle.sheet.proofs.line.print_line.Goals as goal

pub context_of-requires : goal.context_of-requires
context_of-requires c = line-long _ (sym c.is_line.ensures ∙ c.if-is_line.true)

pub print_columns-requires : goal.print_columns-requires
print_columns-requires c = (line-long _ (sym c.is_line.ensures ∙ c.if-is_line.true), (c.context_of.ensures, search rules))

pub returns-then-is_line : goal.returns-then-is_line
returns-then-is_line c =
    let text = c.args.line.now in
    let whole = sym c.is_line.ensures ∙ c.if-is_line.true in
    rw (printed-as text true whole) (sym (columns-long text (line-long text whole)), (c.print_columns.ensures, lit≤ tt))

pub returns-else-is_line : goal.returns-else-is_line
returns-else-is_line c =
    rw (printed-as c.args.line.now false (sym c.is_line.ensures ∙ c.if-is_line.false)) (refl, (c.print_other_form.ensures, lit≤ tt))
