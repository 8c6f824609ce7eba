use Rattle.ac_context.proofs.Bounds.{covered-most}
use Rattle.least_cost.proofs.Trial.{nz-le}
use Rattle.steps.proofs.Listed.{pickable-back, pickable-level}
use Rattle.steps.specs.Place.{distortion_at}
use Rattle.trellis_edges.proofs.Tried.{elsewhere-all, updated-elsewhere, updated-size, outside, dead, edge}
use mathlib.Core.Path.{refl, sym, ap, ◌∙◌}
use Prim.Native.Nat.{◌≤◌, ◌+◌}
use native.Mathlib.Omega.{arith}
use Rattle.trellis_edges.proofs.try_edge.Goals as goal
use Rattle.trellis_edges.proofs.try_edge.Goals.{then-r-row-via-then-r-row, then-r-row-via-else-r-row+then-row-r}

pub overflow_add-r : goal.overflow_add-r
overflow_add-r c =
    let pre = c.requires in
    let one : c.nonzero-nonzero.result ≤ 1 = rw c.nonzero-nonzero.ensures (nz-le _) in
    record { fits = omega (arith, pre.n_le_most.0, c.args.row.now.workable.left, covered-most c.args.row.now.workable.covers) }

pub returns-then-r-row : goal.returns-then-r-row
returns-then-r-row c =
    let pre = c.requires in
    let pickable = c.args.row.now.candidates.pickable in
    let listed = pre.n_le_most.1 in
    let out : c.args.row.now.least ≤ c.args.n + c.nonzero-nonzero.result → c.args.n + c.nonzero-nonzero.result ≤ c.args.row.now.most → ⊥ =
    elim c.then-r-row.branch [
      | then-r-row-via-then-r-row w ↦ λ low high. omega (arith, w.if-r-row.true, low)
      | then-r-row-via-else-r-row+then-row-r w ↦ λ low high. omega (arith, w.if-row-r.true, high)
    ] in
    record { current_len_unchanged = refl; elsewhere = elsewhere-all _ _ _; tried_after = outside c.args.row.now.workable listed pre.tried (pickable-back pickable _ listed) c.nonzero-nonzero.ensures refl out }

pub tail_at-tail-requires : goal.tail_at-tail-requires
tail_at-tail-requires c =
    rw c.nonzero-nonzero.ensures (nz-le _)

pub local_pair-local-requires : goal.local_pair-local-requires
local_pair-local-requires c = let pickable = c.args.row.now.candidates.pickable in
    let listed = c.requires.n_le_most.1 in
    record { context_bound = c.context-context.ensures.1; t = pickable-level pickable _ listed; distortion_value = c.requires.each.at _ listed ∙ ap (distortion_at c.args.row.now.place) (sym (pickable-back pickable _ listed)) }

pub overflow_cast-j : goal.overflow_cast-j
overflow_cast-j c = let pre = c.requires in record { fits = omega (arith, pre.n_le_most.1, c.args.row.now.candidates.pickable.few) }

pub update_pair-requires : goal.update_pair-requires
update_pair-requires c =
    let rooms = c.requires.fits in
    let low = c.if-r-row.false in
    let high = c.if-row-r.false in
    let listed = c.requires in
    (omega (arith, rooms.costs, low, high), (omega (arith, rooms.halves, low, high), omega (arith, listed.n_le_most.1, c.args.row.now.candidates.pickable.few)))

pub returns-else-row-r : goal.returns-else-row-r
returns-else-row-r c = let pre = c.requires in
    let pickable = c.args.row.now.candidates.pickable in
    let listed = pre.n_le_most.1 in
    let rooms = pre.fits in
    let low = c.if-r-row.false in
    let high = c.if-row-r.false in
    let local = c.local_pair-local.ensures in
    let updated = c.update_pair.ensures in
    record {
      current_len_unchanged = updated-size updated;
      elsewhere = updated-elsewhere _ (omega (arith, low, high)) updated;
      tried_after = edge c.args.row.now.workable listed pre.tried (pickable-back pickable _ listed) c.nonzero-nonzero.ensures refl low high c.tail_at-tail.ensures c.context-context.ensures.0 local.0 local.1
          (omega (arith, rooms.costs, low, high)) (omega (arith, rooms.halves, low, high)) updated;
    }

pub returns-else-tail-infinity : goal.returns-else-tail-infinity
returns-else-tail-infinity c = let pre = c.requires in
    let pickable = c.args.row.now.candidates.pickable in
    let listed = pre.n_le_most.1 in
    record { current_len_unchanged = refl; elsewhere = elsewhere-all _ _ _; tried_after = dead c.args.row.now.workable listed pre.tried (pickable-back pickable _ listed) c.nonzero-nonzero.ensures refl c.tail_at-tail.ensures c.infinity.ensures c.if-tail-infinity.false }
