use Rattle.greedy_cost.proofs.Costing.{cost_is}
use Rattle.ac_context.proofs.Bounds.{covered-most}
use Rattle.least_cost.proofs.Trial.{nz-le}
use Rattle.steps.proofs.Zero.{level-back}
use Prim.Native.Nat.{◌≤◌}
use native.Mathlib.Omega.{arith}
use Rattle.greedy_cost.proofs.cost.candidate_cost.Goals as goal

pub overflow_add-count : goal.overflow_add-count
overflow_add-count c =
    let one : c.nonzero-nonzero.result ≤ 1 = rw c.nonzero-nonzero.ensures (nz-le _) in
    record { fits = omega (arith, c.requires.i_bound.1.0, covered-most c.args.plan.coded.covers) }

pub prev_at-prev-requires : goal.prev_at-prev-requires
prev_at-prev-requires c =
    (covered-most c.args.plan.coded.covers, c.requires.i_bound.1.1)

pub overflow_add-around : goal.overflow_add-around
overflow_add-around c =
    let one : c.nonzero-nonzero.result ≤ 1 = rw c.nonzero-nonzero.ensures (nz-le _) in
    record { fits = omega (arith, c.requires.i_bound.0, covered-most c.args.plan.coded.covers) }

pub bits-bits-requires : goal.bits-bits-requires
bits-bits-requires c =
    let one : c.nonzero-nonzero.result ≤ 1 = rw c.nonzero-nonzero.ensures (nz-le _) in
    record { i_bound = (omega (arith, c.requires.i_bound.0), c.prev_at-prev.ensures.upper_bound); t = rw (level-back _ c.requires.t) c.requires.t }

pub distortion-distortion-requires : goal.distortion-distortion-requires
distortion-distortion-requires c =
    rw (level-back _ c.requires.t) c.requires.t

pub count_cost-counted-requires : goal.count_cost-counted-requires
count_cost-counted-requires c =
    let one : c.nonzero-nonzero.result ≤ 1 = rw c.nonzero-nonzero.ensures (nz-le _) in
    omega (arith, c.requires.i_bound.1.0, covered-most c.args.plan.coded.covers)

pub returns : goal.returns
returns c =
    λ b w at.
    let back = level-back _ c.requires.t in
    cost_is _ b _ _ _ _ _ _ _ _ _ _ _ _ _ _ _ w at back c.nonzero-nonzero.ensures
    c.distortion-distortion.ensures c.rate.ensures (c.prev_at-prev.ensures.value b w.covered_is)
    (c.bits-bits.ensures b w) (c.count_cost-counted.ensures b w)
