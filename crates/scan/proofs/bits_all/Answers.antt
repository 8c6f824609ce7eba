use mathlib.Core.Path.{◌∙◌}
use Rattle.scan.proofs.Marks.{marked-once}
use Rattle.scan.proofs.bits_all.Goals as goal

pub returns-then-mark_bits : goal.returns-then-mark_bits
returns-then-mark_bits c = c.all_set.ensures ∙ marked-once c.if-mark_bits.true c.mark_bits.ensures.marked
