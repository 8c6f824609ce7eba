use lib.Ieee.{of_bits}
use Rattle.prices.specs.Checks.{symbol_price}
use Rattle.book_checks.proofs.is_symbol_price.Goals as goal

pub returns-then-x-2 : goal.returns-then-x-2
unfolding symbol_price of_bits
returns-then-x-2 c = simp (c.if-x.true, c.if-x-2.true)

pub returns-else-x-2 : goal.returns-else-x-2
unfolding symbol_price of_bits
returns-else-x-2 c = rw c.infinity.ensures (simp (c.if-x.true, c.if-x-2.false))

pub returns-else-x : goal.returns-else-x
unfolding symbol_price of_bits
returns-else-x c = simp c.if-x.false
