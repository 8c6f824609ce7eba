use Rattle.greedy_cost.proofs.Costing.{prev-first, prev-front, flag-most}
use Rattle.std.proofs.Common.{◌∙◌}
use Rattle.greedy_cost.proofs.cost.prev_at.Goals as goal

pub returns-then-i-eq0 : goal.returns-then-i-eq0
returns-then-i-eq0 c = record { value = λ b e. c.first_prev.ensures ∙ prev-first b _ _ _ _ e c.if-i-eq0.true; upper_bound = rw c.first_prev.ensures (flag-most _) }

pub returns : goal.returns
returns c = record { value = λ b e. prev-front b _ _ _ _ e c.if-i-eq0.false; upper_bound = c.requires.1 }
