use native.Mathlib.Omega.{arith}
use Rattle.block_file.proofs.Numbers.{handed}
use Rattle.block_file.proofs.fields.level_at.Goals as goal

pub returns : goal.returns
returns c = handed _ _ c.word_at.ensures (omega arith) c.level_of.ensures
