use borrow.Author.Tests.{eq-eqb, ne_eqb}
use Rattle.book_rows.specs.Row.{priced_octaves}
use Rattle.book_rows.proofs.priced_octaves.Goals as goal

pub returns-then-both-eq6 : goal.returns-then-both-eq6
unfolding priced_octaves
returns-then-both-eq6 c = simp (eq-eqb _ 6 c.if-both-eq6.true)

pub returns-else-both-eq6 : goal.returns-else-both-eq6
unfolding priced_octaves
returns-else-both-eq6 c = simp (ne_eqb _ 6 c.if-both-eq6.false)
