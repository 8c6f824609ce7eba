use Rattle.sheet.proofs.Columns.{place-some}
use Rattle.sheet.specs.Column.{places}
use borrow.Author.Rules.{rules}
use Rattle.sheet.proofs.column.place.Goals as goal

pub returns : goal.returns
unfolding places
returns c = (search rules, place-some _ c.requires)
