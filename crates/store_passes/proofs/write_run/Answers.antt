use Rattle.store_passes.proofs.Passes.{run-placed}
use Rattle.store_passes.proofs.write_run.Goals as goal

pub returns : goal.returns
returns c = run-placed _ _ _ _ _ c.requires
