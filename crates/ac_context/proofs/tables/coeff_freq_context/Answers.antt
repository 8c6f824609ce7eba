use native.Mathlib.Omega.{arith}
use Rattle.ac_context.proofs.Frequency.{by-rule, single, double, fourfold}
use Rattle.ac_context.proofs.tables.coeff_freq_context.Goals as goal

pub returns-then-at-lt16 : goal.returns-then-at-lt16
returns-then-at-lt16 c = by-rule _ (omega arith) (omega arith) _ (single _ (omega arith))

pub returns-then-at-lt32 : goal.returns-then-at-lt32
returns-then-at-lt32 c = by-rule _ (omega arith) (omega arith) _ (double _ (omega arith) (omega arith))

pub returns : goal.returns
returns c = by-rule _ (omega arith) (omega arith) _ (fourfold _ (omega arith))
