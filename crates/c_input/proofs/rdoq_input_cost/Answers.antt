use Rattle.c_input.proofs.Results.{told-input}
use Rattle.c_input.proofs.rdoq_input_cost.Goals as goal

pub returns : goal.returns
returns c =
    let found = rw c.new-view.ensures at c.rdoq_input_cost.ensures in
    told-input _ _ _ _ found (c.tell_answer.ensures.value, (c.tell_answer.ensures.cost_after, c.tell_answer.ensures.count_after))
