use borrow.Author.Rules.{rules}
use Rattle.ac_context.proofs.Bounds.{order_below}
use Rattle.ac_context.specs.Contexts.{strategy_order}
use Rattle.ac_context.proofs.tables.strategy_order.Goals as goal

pub returns : goal.returns
unfolding strategy_order
returns c = (search rules, rw c.from.ensures (order_below _ c.requires))
