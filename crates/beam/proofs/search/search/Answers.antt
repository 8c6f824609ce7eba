use Rattle.search_checks.proofs.Checked.{scan_long, levels-few, scan-of, window-fits, whole-past}
use Rattle.beam.proofs.Whole.{countable, done-of, done-answer, longer}
use Prim.Native.Nat.{zero-le}
use mathlib.Core.Path.{◌∙◌}
use native.Mathlib.Nat.{le_refl}
use native.Mathlib.Omega.{arith}
use Rattle.beam.proofs.Turns.{reached-start}
use Rattle.beam.proofs.search.search.Goals as goal

pub start_of-start-requires : goal.start_of-start-requires
start_of-start-requires c = let w = c.requires.searched in
    record { whole = whole-past w; length_in_bounds = window-fits w; perm = (scan-of w, levels-few w) }

pub take_positions-later-requires : goal.take_positions-later-requires
take_positions-later-requires c = let pre = c.requires in
    record { searched = pre.searched; reached = (λ w. reached-start w (c.start_paths.ensures _ _ w.block (c.start_of-start.ensures w.block w.lists.scan_is w.lists.levels_is (scan_long w) w.checked.planned))); upto_le_from = (omega arith, le_refl _); length_in_bounds = pre.length_in_bounds }

pub take_positions-kept-requires : goal.take_positions-kept-requires
take_positions-kept-requires c = let pre = c.requires in
    let taken = c.take_positions-later.ensures in
    record { searched = pre.searched; reached = taken.reached_after; upto_le_from = (zero-le, omega arith); length_in_bounds = longer taken.choices_len_unchanged pre.length_in_bounds }

pub best_path-best-requires : goal.best_path-best-requires
best_path-best-requires c =
    let w = c.requires.searched in
    countable w (c.take_positions-kept.ensures.reached_after w).paths_are

pub write_found-requires : goal.write_found-requires
write_found-requires c =
    let pre = c.requires in
    let w = pre.searched in
    let taken = c.take_positions-kept.ensures in
    let before = c.take_positions-later.ensures in
    done-of w (taken.reached_after w) (c.best_path-best.ensures w.block w.checked.planned (taken.reached_after w).paths_are) (longer (taken.choices_len_unchanged ∙ before.choices_len_unchanged) pre.length_in_bounds)

pub returns : goal.returns
returns c = let taken = c.take_positions-kept.ensures in
    let before = c.take_positions-later.ensures in
    let pre = c.requires in
    record { choices_len_unchanged = taken.choices_len_unchanged ∙ before.choices_len_unchanged; value = λ w. done-answer w (taken.reached_after w) (c.best_path-best.ensures w.block w.checked.planned (taken.reached_after w).paths_are) (longer (taken.choices_len_unchanged ∙ before.choices_len_unchanged) pre.length_in_bounds) c.write_found.ensures }
