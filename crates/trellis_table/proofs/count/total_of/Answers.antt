use Rattle.trellis_table.proofs.Totals.{count-few, total-is}
use Rattle.search_checks.proofs.Checked.{covered-few, bit-few}
use native.Mathlib.Omega.{arith}
use Prim.Native.Nat.{◌≤◌, ◌*◌, ◌/◌}
use lib.Dec.{leb}
use Rattle.trellis_table.proofs.count.total_of.Goals as goal

pub first_prev-prev-requires : goal.first_prev-prev-requires
first_prev-prev-requires c = covered-few c.requires.first_row.rowable.checked

pub overflow_add-at : goal.overflow_add-at
overflow_add-at c =
    let pre = c.requires in
    let few : c.first_prev-prev.result ≤ 1 = rw c.first_prev-prev.ensures (bit-few (leb c.args.n (64 * c.args.plan.covered / 16))) in
    record { fits = omega (arith, pre.first_row.row_is.narrow, pre.least_le_n.0, pre.least_le_n.1) }

pub offset_bounds-live-at : goal.offset_bounds-live-at
offset_bounds-live-at c =
    let pre = c.requires in
    let few : c.first_prev-prev.result ≤ 1 = rw c.first_prev-prev.ensures (bit-few (leb c.args.n (64 * c.args.plan.covered / 16))) in
    record { fits = omega (arith, pre.first_row.row_is.narrow, pre.least_le_n.0, pre.least_le_n.1) }

pub bounds-live-at : goal.bounds-live-at
bounds-live-at c =
    let pre = c.requires in
    let few : c.first_prev-prev.result ≤ 1 = rw c.first_prev-prev.ensures (bit-few (leb c.args.n (64 * c.args.plan.covered / 16))) in
    omega (arith, pre.first_row.row_is.narrow, pre.first_row.room, pre.least_le_n.0, pre.least_le_n.1)

pub count_cost-requires : goal.count_cost-requires
count_cost-requires c = let pre = c.requires in
    count-few pre.first_row.rowable _ pre.first_row.counts_are _ pre.least_le_n.1

pub returns : goal.returns
returns c =
    let pre = c.requires in
    λ t. total-is t.rowable _ _ t.row_is _ _ _ pre.least_le_n.0 pre.least_le_n.1 c.first_prev-prev.ensures (c.count_cost.ensures _ t.rowable.checked.planned)
