use Rattle.scan.specs.Scan.{level_at}
use borrow.Author.Rules.{rules}
use Rattle.steps.proofs.level_at.Goals as goal

pub returns : goal.returns
unfolding level_at
returns c = search rules
