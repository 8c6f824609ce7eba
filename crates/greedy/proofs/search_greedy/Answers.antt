use native.Mathlib.Omega.{arith}
use Rattle.search_checks.proofs.Checked.{own-lists}
use Rattle.search_checks.proofs.Refusing.{checked-of, window-of}
use Rattle.greedy.proofs.Settling.{fitting-of, ready_of, counted-few, settled-outcome}
use Rattle.greedy.proofs.search_greedy.Goals as goal

pub plan_of-plan-requires : goal.plan_of-plan-requires
plan_of-plan-requires c = let a = c.requires.passed in
    record { cx_value = (a.first_side, a.second_side); strategy_bound = (a.strategy, a.channel) }

pub settle-count-requires : goal.settle-count-requires
settle-count-requires c = let plan = c.plan_of-plan.ensures in
    let K = checked-of _ _ plan.window_value c.requires (plan.planned _) in
    record { fitting = fitting-of K; ready = ready_of K }

pub overflow_cast-result : goal.overflow_cast-result
overflow_cast-result c =
    let plan = c.plan_of-plan.ensures in
    let K = checked-of _ _ plan.window_value c.requires (plan.planned _) in
    record { fits = omega (arith, counted-few _ _ _ c.settle-count.ensures.value, (fitting-of K).most) }

pub returns : goal.returns
returns c =
    let plan = c.plan_of-plan.ensures in
    let planned = plan.planned _ in
    settled-outcome _ _ planned (window-of _ _ plan.window_value) (c.settle-count.ensures.levels_after _ (own-lists _) planned) c.settle-count.ensures.value
