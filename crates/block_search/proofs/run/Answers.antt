use Rattle.block_search.proofs.OnCopy.{on-copy}
use Rattle.block_search.proofs.run.Goals as goal

pub returns : goal.returns
returns c = on-copy c.args.block.now _ _ c.copy_from_slice.ensures.after c.rdoq_block.ensures.outcome
