use mathlib.Core.Path.{sym, ap, ◌∙◌}
use Prim.Native.Nat.{ℕ, ◌*◌}
use lib.ListN.{length}
use Rattle.ac_context.proofs.Bounds.{covered-most}
use Rattle.input_cost.proofs.Adding.{summed-end}
use Rattle.input_cost.proofs.Turns.{by-flag, whole-later}
use Rattle.input_cost.proofs.sum.sum_past.Goals as goal

pub start_of-start-requires : goal.start_of-start-requires
start_of-start-requires c = let w = c.requires in
    record { whole = whole-later w; length_in_bounds = w.fits; perm = (w.scanned, w.few) }

pub prev_at-prev-requires : goal.prev_at-prev-requires
prev_at-prev-requires c = let pre = c.requires in
    record { whole = pre.whole; covered_bound = (covered-most c.args.plan.coded.covers, pre.fits) }

pub returns : goal.returns
returns c =
    λ b es el P.
    let pre = c.requires in
    let prev = c.prev_at-prev.ensures in
    let long = ap length (sym es) ∙ pre.whole.size ∙ ap (λ (n : ℕ). 64 * n) P.covered_is in
    summed-end _ _ b (c.start_of-start.ensures b es el long P) (prev.value b es el P.covered_is) prev.upper_bound (by-flag c.by_prev.ensures)
