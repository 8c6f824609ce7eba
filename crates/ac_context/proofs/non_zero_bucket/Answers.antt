use native.Mathlib.Omega.{arith}
use borrow.Author.Tests.{lt-ltb, le-ltb, le-leb, lt-leb}
use Rattle.ac_context.specs.Contexts.{non_zero_bucket}
use Rattle.ac_context.proofs.non_zero_bucket.Goals as goal

pub returns-then-non_zeros-lt8 : goal.returns-then-non_zeros-lt8
unfolding non_zero_bucket
returns-then-non_zeros-lt8 c = (simp (lt-ltb _ _ c.if-non_zeros-lt8.true), omega arith)

pub returns-then-non_zeros-ge64 : goal.returns-then-non_zeros-ge64
unfolding non_zero_bucket
returns-then-non_zeros-ge64 c = (simp (le-ltb _ _ c.if-non_zeros-lt8.false, le-leb _ _ c.if-non_zeros-ge64.true), omega arith)

pub returns-else-non_zeros-ge64 : goal.returns-else-non_zeros-ge64
unfolding non_zero_bucket
returns-else-non_zeros-ge64 c = (simp (le-ltb _ _ c.if-non_zeros-lt8.false, lt-leb _ _ c.if-non_zeros-ge64.false), omega arith)
