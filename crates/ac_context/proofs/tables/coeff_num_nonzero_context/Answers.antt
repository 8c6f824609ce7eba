use Prim.Native.Nat.{ℕ, ◌*◌, ◌/◌}
use native.Mathlib.Omega.{arith}
use Rattle.ac_context.proofs.Bounds.{num-by}
use Rattle.ac_context.specs.Contexts.{coeff_num_nonzero_context}
use Rattle.ac_context.proofs.tables.coeff_num_nonzero_context.Goals as goal

pub returns-then-at-lt3 : goal.returns-then-at-lt3
unfolding coeff_num_nonzero_context
returns-then-at-lt3 c = num-by 0 3 (λ (i : ℕ). 31 * (i / 2)) tt _ (omega arith) (omega arith) (omega arith)

pub returns-then-at-lt5 : goal.returns-then-at-lt5
unfolding coeff_num_nonzero_context
returns-then-at-lt5 c = num-by 3 5 (λ _. 62) tt c.args.at (omega arith) (omega arith) (omega arith)

pub returns-then-at-lt9 : goal.returns-then-at-lt9
unfolding coeff_num_nonzero_context
returns-then-at-lt9 c = num-by 5 9 (λ _. 93) tt c.args.at (omega arith) (omega arith) (omega arith)

pub returns-then-at-lt13 : goal.returns-then-at-lt13
unfolding coeff_num_nonzero_context
returns-then-at-lt13 c = num-by 9 13 (λ _. 123) tt c.args.at (omega arith) (omega arith) (omega arith)

pub returns-then-at-lt21 : goal.returns-then-at-lt21
unfolding coeff_num_nonzero_context
returns-then-at-lt21 c = num-by 13 21 (λ _. 152) tt c.args.at (omega arith) (omega arith) (omega arith)

pub returns-then-at-lt33 : goal.returns-then-at-lt33
unfolding coeff_num_nonzero_context
returns-then-at-lt33 c = num-by 21 33 (λ _. 180) tt c.args.at (omega arith) (omega arith) (omega arith)

pub returns : goal.returns
unfolding coeff_num_nonzero_context
returns c = num-by 33 64 (λ _. 206) tt c.args.at (omega arith) (omega arith) (omega arith)
