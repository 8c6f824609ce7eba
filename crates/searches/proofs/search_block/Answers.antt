use Rattle.searches.proofs.Results.{beam-room, trellis-room, unfactored-room, greedy-searched, beam-searched, trellis-searched, unfactored-searched}
use Rattle.searches.proofs.search_block.Goals as goal

pub search_greedy-requires : goal.search_greedy-requires
search_greedy-requires c = c.requires.accepted

pub search_beam-answer-requires : goal.search_beam-answer-requires
search_beam-answer-requires c = (c.requires.accepted, beam-room c.requires c.in-Beam.is)

pub search_banded-requires : goal.search_banded-requires
search_banded-requires c = record { width_bound = c.requires.narrow; accepted = (c.requires.accepted, trellis-room c.requires c.in-Trellis.is) }

pub search_banded-requires-in-Unfactored : goal.search_banded-requires-in-Unfactored
search_banded-requires-in-Unfactored c = record { width_bound = c.requires.narrow; accepted = (c.requires.accepted, unfactored-room c.requires c.in-Unfactored.is) }

pub returns-in-Greedy-clause-outcome : goal.returns-in-Greedy-clause-outcome
returns-in-Greedy-clause-outcome c = greedy-searched _ _ _ _ _ _ c.in-Greedy.is c.search_greedy.ensures

pub returns-in-Beam-clause-outcome : goal.returns-in-Beam-clause-outcome
returns-in-Beam-clause-outcome c =
    let rows = c.clear_rows.ensures in
    beam-searched _ _ _ _ _ _ c.in-Beam.is c.search_beam-answer.ensures rows.choices rows.row_a rows.row_b

pub returns-in-Trellis-clause-outcome : goal.returns-in-Trellis-clause-outcome
returns-in-Trellis-clause-outcome c = trellis-searched _ _ _ _ _ _ c.in-Trellis.is c.search_banded.ensures.outcome

pub returns-in-Unfactored-clause-outcome : goal.returns-in-Unfactored-clause-outcome
returns-in-Unfactored-clause-outcome c = unfactored-searched _ _ _ _ _ _ c.in-Unfactored.is c.search_banded-in-Unfactored.ensures.outcome
