use Rattle.std.proofs.Common.{◌∙◌}
use Rattle.search_checks.proofs.Checked.{searched-of}
use Rattle.search_checks.proofs.Refusing.{checked-of, window-of}
use Rattle.trellis.proofs.Banded.{searched-banded, room-kept, done-of, done-answer, windowed-answer}
use Rattle.trellis.proofs.Whole.{still-long}
use Rattle.trellis.proofs.search_banded.Goals as goal

pub plan_of-plan-requires : goal.plan_of-plan-requires
plan_of-plan-requires c = let a = c.requires.accepted.0.passed in
    record { cx_value = (a.first_side, a.second_side); strategy_bound = (a.strategy, a.channel) }

pub search-found-requires : goal.search-found-requires
search-found-requires c = let pre = c.requires in
    let plan = c.plan_of-plan.ensures in
    let R = room-kept (window-of _ _ plan.window_value) pre.accepted.1 in
    record { width_bound = (pre.width_bound, searched-of _ (checked-of _ _ plan.window_value pre.accepted.0 (plan.planned _))); width_in_bounds = (R.first, (R.second, R.choices_long)) }

pub write_found-answer-requires : goal.write_found-answer-requires
write_found-answer-requires c =
    let pre = c.requires in
    let plan = c.plan_of-plan.ensures in
    let found = c.search-found.ensures in
    let K = checked-of _ _ plan.window_value pre.accepted.0 (plan.planned _) in
    done-of pre.width_bound K (found.found_in (searched-of _ K)) (still-long found.kept.choices (room-kept (window-of _ _ plan.window_value) pre.accepted.1).choices_long)

pub returns-clause-outcome : goal.returns-clause-outcome
returns-clause-outcome c =
    let pre = c.requires in
    let plan = c.plan_of-plan.ensures in
    let found = c.search-found.ensures in
    let K = checked-of _ _ plan.window_value pre.accepted.0 (plan.planned _) in
    let done = done-answer pre.width_bound K (found.found_in (searched-of _ K)) (still-long found.kept.choices (room-kept (window-of _ _ plan.window_value) pre.accepted.1).choices_long) c.write_found-answer.ensures in
    let rest = c.clear_rows.ensures in
    searched-banded _ _ _ _ _ (windowed-answer _ _ _ (window-of _ _ plan.window_value) done) (rest.choices ∙ c.clear_choices.ensures) found.kept.choices rest.row_a found.kept.first rest.row_b found.kept.second
