use borrow.Author.Tests.{le-ltb, lt-ltb, eq-eqb, ne_eqb}
use Rattle.sheet.specs.Column.{column_char}
use Rattle.sheet.proofs.column.column_char.Goals as goal

pub returns-then-i-ge5 : goal.returns-then-i-ge5
unfolding column_char
returns-then-i-ge5 c = rw (← c.place.ensures.0, le-ltb _ _ c.if-i-ge5.true) c.last_digit.ensures

pub returns-then-high-eq0 : goal.returns-then-high-eq0
unfolding column_char
returns-then-high-eq0 c = rw (← c.place.ensures.0, lt-ltb _ _ c.if-i-ge5.false, eq-eqb _ _ c.if-high-eq0.true)

pub returns : goal.returns
unfolding column_char
returns c =
    rw (← c.place.ensures.0, lt-ltb _ _ c.if-i-ge5.false, ne_eqb _ _ c.if-high-eq0.false)
    c.last_digit-2.ensures
