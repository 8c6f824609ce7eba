use Rattle.std.proofs.Common.{◌∙◌, rules}
use Rattle.rooms.proofs.Given.{given_back}
use Rattle.searches.proofs.Numbers.{named, not-named}
use Rattle.c_group.proofs.Telling.{unknown, told-group}
use Rattle.c_group.proofs.rdoq_group.Goals as goal

pub returns-in-Err : goal.returns-in-Err
returns-in-Err c =
    let none = not-named _ c.in-Err.ensures in
    rw (c.number.ensures ∙ none.1.0) (unknown _ _ _ _ _ _ none.0 none.1.1)

pub returns : goal.returns
returns c =
    let found = named _ c.in-Ok.ensures in
    let ran = rw (found.1, c.new-view.ensures) at c.rdoq_group-answer.ensures.outcome in
    told-group _ _ _ _ _ _ found.0 ran c.tell_group.ensures.0 c.tell_group.ensures.1 (given_back _ c.rdoq_group-answer.new.room (search rules) (search rules) (search rules))
