use lib.Ieee.{of_bits}
use borrow.Author.Tests.{eq-eqb, ne_eqb}
use Rattle.book_build.specs.Prefix.{depth_price}
use Rattle.book_build.proofs.depth_price.Goals as goal

pub returns-then-depth-eq0 : goal.returns-then-depth-eq0
unfolding depth_price
returns-then-depth-eq0 c = simp (eq-eqb _ 0 c.if-depth-eq0.true)

pub returns-then-single : goal.returns-then-single
unfolding depth_price of_bits
returns-then-single c = simp (ne_eqb _ 0 c.if-depth-eq0.false, c.if-single.true)

pub returns-else-single : goal.returns-else-single
unfolding depth_price
returns-else-single c = rw c.from.ensures (simp (ne_eqb _ 0 c.if-depth-eq0.false, c.if-single.false))
