use borrow.Author.Rules.{rules}
use Rattle.ac_context.proofs.Bounds.{row_below}
use Rattle.ac_context.specs.Contexts.{channel_row}
use Rattle.ac_context.proofs.tables.channel_row.Goals as goal

pub returns : goal.returns
unfolding channel_row
returns c = (search rules, row_below _ c.requires)
