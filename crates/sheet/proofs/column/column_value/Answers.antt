use Rattle.sheet.specs.Column.{column_value}
use borrow.Author.Rules.{rules}
use Rattle.sheet.proofs.column.column_value.Goals as goal

pub returns : goal.returns
unfolding column_value
returns c = search rules
