use Rattle.std.proofs.Common.{refl}
use Rattle.sheet.proofs.Lines.{laid_none, laid_more}
use Rattle.sheet.proofs.line.print_other_form.Goals as goal

pub loop-i-init : goal.loop-i-init
loop-i-init c = laid_none _ _ _

pub loop-i-preserved : goal.loop-i-preserved
loop-i-preserved c = laid_more _ _ _ _ _ _ c.loop-i.invariant refl
