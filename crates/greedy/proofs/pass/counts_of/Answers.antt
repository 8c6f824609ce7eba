use Rattle.greedy.proofs.Settling.{total-is, counted-few}
use mathlib.Core.Path.{◌∙◌}
use native.Mathlib.Omega.{arith}
use Rattle.greedy.proofs.pass.counts_of.Goals as goal

pub nonzeros_from-later-requires : goal.nonzeros_from-later-requires
nonzeros_from-later-requires c = let pre = c.requires in
    record { perm = (pre.perm.0, omega (arith, pre.perm.1, pre.window_bound.1)); from_in_bounds = omega (arith, pre.perm.0.size, pre.perm.1, pre.window_bound.0) }

pub nonzeros_between-requires : goal.nonzeros_between-requires
nonzeros_between-requires c = let pre = c.requires in
    record { perm = pre.perm.0; from_le_end = (omega arith, omega (arith, pre.perm.0.size, pre.perm.1, pre.window_bound.0)) }

pub overflow_add-result : goal.overflow_add-result
overflow_add-result c =
    let pre = c.requires in
    let later = rw (pre.perm.0.size ∙ pre.perm.1) at c.nonzeros_from-later.ensures in
    record { fits = omega (arith, counted-few _ _ _ (total-is _ _ _ _ pre.window_bound.0 later c.nonzeros_between.ensures), pre.window_bound.1) }

pub returns : goal.returns
returns c =
    let pre = c.requires in
    let later = rw (pre.perm.0.size ∙ pre.perm.1) at c.nonzeros_from-later.ensures in
    (later, total-is _ _ _ _ pre.window_bound.0 later c.nonzeros_between.ensures)
