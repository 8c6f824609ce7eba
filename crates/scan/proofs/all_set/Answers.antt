use mathlib.Core.Path.{sym, ◌∙◌}
use native.Mathlib.Omega.{arith}
use Rattle.scan.proofs.Bits.{bits_left}
use Rattle.scan.proofs.all_set.Goals as goal

pub returns-else-all_full : goal.returns-else-all_full
returns-else-all_full c = c.if-all_full.false ∙ sym (bits_left c.args.words.now c.args.n _ (omega arith) (sym c.all_full.ensures ∙ c.if-all_full.false))
