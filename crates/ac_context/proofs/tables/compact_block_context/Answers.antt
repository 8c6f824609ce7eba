use borrow.Author.Rules.{rules}
use Rattle.ac_context.proofs.Bounds.{map_below}
use Rattle.ac_context.specs.Contexts.{block_context_map}
use Rattle.ac_context.proofs.tables.compact_block_context.Goals as goal

pub returns : goal.returns
unfolding block_context_map
returns c = (search rules, rw c.from.ensures (map_below _ c.requires))
