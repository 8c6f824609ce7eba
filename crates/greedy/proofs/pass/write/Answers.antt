use Rattle.steps.proofs.Zero.{current-back}
use Rattle.least_cost.specs.Position.{nz}
use Rattle.scan.specs.Scan.{level_at}
use mir.Syntax.{w32}
use mir.ValLaws.{to_z-of_z}
use mathlib.Core.Path.{ap, ◌∙◌}
use Rattle.greedy.proofs.pass.write.Goals as goal

pub returns : goal.returns
unfolding level_at
returns c =
    record { value = c.nonzero-before.ensures ∙ ap nz (current-back _ c.requires.t); levels_after = rw (to_z-of_z w32 _ c.ranges.level) }
