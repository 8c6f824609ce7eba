use mathlib.Core.Path.{◌∙◌}
use native.Mathlib.Omega.{arith}
use Rattle.search_checks.proofs.Checked.{whole-past, window-fits, levels-few, scan-of}
use Rattle.trellis.proofs.Whole.{still-long, tail-for, first-row, from_first}
use Rattle.trellis.proofs.search.search.Goals as goal

pub start_of-start-requires : goal.start_of-start-requires
start_of-start-requires c = let s = c.requires.width_bound.1 in
    record { whole = whole-past s; length_in_bounds = window-fits s; perm = (scan-of s, levels-few s) }

pub start_row-requires : goal.start_row-requires
start_row-requires c = omega (arith, c.requires.width_in_bounds.0)

pub take_positions-last-requires : goal.take_positions-last-requires
take_positions-last-requires c = let pre = c.requires in
    let s = pre.width_bound.1 in
    let starts = c.start_of-start.ensures _ s.lists.scan_is s.lists.levels_is s.checked.passed.scan_long s.checked.planned in
    let row = c.start_row.ensures in
    record { width_bound = pre.width_bound.0; tail_for = tail-for s starts (row.tail_row _ _ _ starts); width_in_bounds = (rw row.row_len_unchanged pre.width_in_bounds.0, (pre.width_in_bounds.1.0, pre.width_in_bounds.1.1)) }

pub best_count-best-requires : goal.best_count-best-requires
best_count-best-requires c =
    let pre = c.requires in
    let s = pre.width_bound.1 in
    let starts = c.start_of-start.ensures _ s.lists.scan_is s.lists.levels_is s.checked.passed.scan_long s.checked.planned in
    let row = c.start_row.ensures in
    let taken = c.take_positions-last.ensures in
    first-row s pre.width_bound.0 (taken.rowed (tail-for s starts (row.tail_row _ _ _ starts))) c.live_row-live.ensures (still-long (taken.kept.first ∙ row.row_len_unchanged) pre.width_in_bounds.0) (still-long taken.kept.second pre.width_in_bounds.1.0)

pub returns : goal.returns
returns c = let pre = c.requires in
    let taken = c.take_positions-last.ensures in
    let row = c.start_row.ensures in
    let kept = taken.kept in
    record {
      kept = record { first = kept.first ∙ row.row_len_unchanged; second = kept.second; choices = kept.choices };
      found_in = λ s.
          let starts = c.start_of-start.ensures _ s.lists.scan_is s.lists.levels_is s.checked.passed.scan_long s.checked.planned in
          let rowed = taken.rowed (tail-for s starts (row.tail_row _ _ _ starts)) in
          let best = c.best_count-best.ensures (first-row s pre.width_bound.0 rowed c.live_row-live.ensures (still-long (kept.first ∙ row.row_len_unchanged) pre.width_in_bounds.0) (still-long kept.second pre.width_in_bounds.1.0)) in
          record {
            cost_is = best.0;
            count_is = best.1;
            past_is = starts.past_is;
            nonzeros_are = from_first _ rowed.after_is;
            chosen = rowed.chosen;
          };
    }
