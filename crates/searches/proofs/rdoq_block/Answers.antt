use Rattle.searches.proofs.Results.{whole}
use Rattle.searches.proofs.rdoq_block.Goals as goal

pub returns-clause-outcome : goal.returns-clause-outcome
returns-clause-outcome c = whole c.rdoq_block_in.ensures.outcome
