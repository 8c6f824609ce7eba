use Rattle.search_checks.proofs.Checked.{searched-of}
use Rattle.search_checks.proofs.Refusing.{checked-of}
use Rattle.input_cost.proofs.Meaning.{own-cost}
use Rattle.input_cost.proofs.passed_cost.Goals as goal

pub plan_of-plan-requires : goal.plan_of-plan-requires
plan_of-plan-requires c = let a = c.requires.passed in
    record { cx_value = (a.first_side, a.second_side); strategy_bound = (a.strategy, a.channel) }

pub cost_of-requires : goal.cost_of-requires
cost_of-requires c =
    let plan = c.plan_of-plan.ensures in
    searched-of _ (checked-of _ _ plan.window_value c.requires (plan.planned _))

pub returns : goal.returns
returns c =
    let plan = c.plan_of-plan.ensures in
    let K = checked-of _ _ plan.window_value c.requires (plan.planned _) in
    own-cost _ K plan.window_value c.cost_of.ensures
