use native.Mathlib.Omega.{arith}
use Rattle.std.proofs.lemmas.Grind.{common_steps}
use Rattle.store_record.specs.Marks.{fits}
use Rattle.store_record.proofs.run_fits.Goals as goal

pub returns-then-run-size : goal.returns-then-run-size
unfolding fits
returns-then-run-size c = grind (arith, common_steps)

pub returns-else-run-size : goal.returns-else-run-size
unfolding fits
returns-else-run-size c = grind (arith, common_steps)
