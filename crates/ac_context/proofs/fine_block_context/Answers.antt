use native.Mathlib.Omega.{arith}
use Rattle.ac_context.proofs.Bounds.{bit_is, bit-most}
use Rattle.ac_context.specs.Contexts.{fine_block_context}
use Rattle.ac_context.proofs.fine_block_context.Goals as goal

pub overflow_add-result : goal.overflow_add-result
overflow_add-result c = record { fits = omega (arith, bit-most c.args.qf_hi) }

pub returns : goal.returns
unfolding fine_block_context
returns c = (cc (bit_is c.args.qf_hi), omega (arith, bit-most c.args.qf_hi))
