use Rattle.beam.proofs.Starting.{starts}
use Rattle.beam.proofs.search.start_paths.Goals as goal

pub returns : goal.returns
returns c = λ v book b e. starts v book b c.args.start _ _ _ _ _ _ e
