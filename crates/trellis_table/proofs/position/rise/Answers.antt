use mathlib.Core.Path.{ap, ◌∙◌}
use mir.Syntax.{w32}
use mir.ValLaws.{to_z-of_z}
use borrow.Author.Tests.{lt-ltb, le-ltb}
use Rattle.least_cost.specs.Position.{nz}
use Rattle.trellis_table.specs.Rows.{rise_at}
use Rattle.trellis_table.proofs.position.rise.Goals as goal

pub returns-then-i-restoring : goal.returns-then-i-restoring
unfolding rise_at
returns-then-i-restoring c = rw (lt-ltb _ _ c.if-i-restoring.true)

pub returns : goal.returns
unfolding rise_at
returns c = rw (le-ltb _ _ c.if-i-restoring.false) (c.nonzero.ensures ∙ ap nz (to_z-of_z w32 _ c.ranges.level))
