use Rattle.search_checks.proofs.Checked.{searched-of}
use Rattle.search_checks.proofs.Refusing.{checked-of, window-of}
use Rattle.beam.proofs.Calling.{own-answer, searched-beam, room-kept}
use Rattle.beam.proofs.search_beam.Goals as goal

pub plan_of-plan-requires : goal.plan_of-plan-requires
plan_of-plan-requires c = let a = c.requires.0.passed in
    record { cx_value = (a.first_side, a.second_side); strategy_bound = (a.strategy, a.channel) }

pub search-answer-requires : goal.search-answer-requires
search-answer-requires c = let pre = c.requires in
    let plan = c.plan_of-plan.ensures in
    record { searched = searched-of _ (checked-of _ _ plan.window_value pre.0 (plan.planned _)); length_in_bounds = room-kept (window-of _ _ plan.window_value) pre.1 }

pub returns : goal.returns
returns c =
    let planning = c in
    let pre = planning.requires in
    let plan = planning.plan_of-plan.ensures in
    let found = c.search-answer.ensures in
    let K = checked-of _ _ plan.window_value pre.0 (plan.planned _) in
    searched-beam _ _ _ _ (own-answer _ K (window-of _ _ plan.window_value) found.value) c.clear_choices.ensures found.choices_len_unchanged
