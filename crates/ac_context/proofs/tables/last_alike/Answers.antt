use native.Mathlib.Omega.{arith}
use lib.Dec.{lit<}
use Rattle.ac_context.specs.Contexts.{coeff_num_nonzero_context}
use Rattle.ac_context.proofs.Same.{alike-by, alike-itself}
use Rattle.ac_context.proofs.tables.last_alike.Goals as goal

pub returns-then-at-lt3 : goal.returns-then-at-lt3
returns-then-at-lt3 c = alike-itself _ (omega arith)

pub returns-then-at-lt5 : goal.returns-then-at-lt5
unfolding coeff_num_nonzero_context
returns-then-at-lt5 c = alike-by 3 4 62 tt (lit< tt) _ (omega arith) (omega arith)

pub returns-then-at-lt9 : goal.returns-then-at-lt9
unfolding coeff_num_nonzero_context
returns-then-at-lt9 c = alike-by 5 8 93 tt (lit< tt) _ (omega arith) (omega arith)

pub returns-then-at-lt13 : goal.returns-then-at-lt13
unfolding coeff_num_nonzero_context
returns-then-at-lt13 c = alike-by 9 12 123 tt (lit< tt) _ (omega arith) (omega arith)

pub returns-then-at-lt21 : goal.returns-then-at-lt21
unfolding coeff_num_nonzero_context
returns-then-at-lt21 c = alike-by 13 20 152 tt (lit< tt) _ (omega arith) (omega arith)

pub returns-then-at-lt33 : goal.returns-then-at-lt33
unfolding coeff_num_nonzero_context
returns-then-at-lt33 c = alike-by 21 32 180 tt (lit< tt) _ (omega arith) (omega arith)

pub returns : goal.returns
unfolding coeff_num_nonzero_context
returns c = alike-by 33 63 206 tt (lit< tt) _ (omega arith) (omega arith)
