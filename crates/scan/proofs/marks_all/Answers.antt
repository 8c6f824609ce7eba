use mathlib.Core.Path.{◌∙◌}
use Rattle.scan.proofs.Marks.{marked-once}
use Rattle.scan.proofs.marks_all.Goals as goal

pub returns-then-mark : goal.returns-then-mark
returns-then-mark c = c.all_marked.ensures ∙ marked-once c.if-mark.true c.mark.ensures
