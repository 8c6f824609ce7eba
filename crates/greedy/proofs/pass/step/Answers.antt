use Rattle.greedy.proofs.Passing.{readable-at, others-few, later-few, passed_on}
use Rattle.greedy.proofs.Stepping.{step-ready, step-later, step-total, step-settled}
use Rattle.least_cost.proofs.Trial.{nz-le}
use Prim.Native.Nat.{◌<◌, ◌≤◌, ◌+◌, ◌*◌}
use lib.ListN.{length-set}
use native.Mathlib.Omega.{arith}
use Rattle.greedy.proofs.pass.step.Goals as goal

pub overflow_add-plan : goal.overflow_add-plan
overflow_add-plan c =
    let pre = c.requires in
    let fitting = pre.fitting in
    let ok = pre.ready in
    let here = pre.i_lt_length in
    let counts = pre.later_value in
    record { fits = omega (arith, fitting.window, fitting.most) }

pub write-before-requires : goal.write-before-requires
write-before-requires c =
    let pre = c.requires in
    let fitting = pre.fitting in
    let ok = pre.ready in
    let here = pre.i_lt_length in
    let counts = pre.later_value in
    let reads = readable-at fitting ok _ here (omega arith) in
    record { k_in_bounds = (reads.scanned, reads.levelled); t = reads.level }

pub overflow_add-result : goal.overflow_add-result
overflow_add-result c =
    let pre = c.requires in
    let fitting = pre.fitting in
    let ok = pre.ready in
    let here = pre.i_lt_length in
    let counts = pre.later_value in
    let inside : c.args.plan.covered + c.args.i < 64 * c.args.plan.covered = omega (arith, fitting.window) in
    let one : c.nonzero-nonzero.result ≤ 1 = rw c.nonzero-nonzero.ensures (nz-le _) in
    record { fits = omega (arith, later-few _ _ _ _ inside counts.0, fitting.most) }

pub overflow_sub-result : goal.overflow_sub-result
overflow_sub-result c =
    let pre = c.requires in
    let fitting = pre.fitting in
    let ok = pre.ready in
    let here = pre.i_lt_length in
    let counts = pre.later_value in
    let inside : c.args.plan.covered + c.args.i < 64 * c.args.plan.covered = omega (arith, fitting.window) in
    (others-few _ _ _ _ inside counts.1 c.write-before.ensures.value).0

pub overflow_add-result-2 : goal.overflow_add-result-2
overflow_add-result-2 c =
    let pre = c.requires in
    let fitting = pre.fitting in
    let ok = pre.ready in
    let here = pre.i_lt_length in
    let counts = pre.later_value in
    let inside : c.args.plan.covered + c.args.i < 64 * c.args.plan.covered = omega (arith, fitting.window) in
    let one : c.nonzero-nonzero.result ≤ 1 = rw c.nonzero-nonzero.ensures (nz-le _) in
    record { fits = omega (arith, (others-few _ _ _ _ inside counts.1 c.write-before.ensures.value).1, fitting.most) }

pub shape_of-levels : goal.shape_of-levels
shape_of-levels c =
    rw c.write-before.ensures.levels_after (simp length-set)

pub returns : goal.returns
returns c =
    let pre = c.requires in
    let fitting = pre.fitting in
    let ok = pre.ready in
    let here = pre.i_lt_length in
    let counts = pre.later_value in
    let inside : c.args.plan.covered + c.args.i < 64 * c.args.plan.covered = omega (arith, fitting.window) in
    let wrote = c.write-before.ensures in
    let took = c.choice-level.ensures in
    let nonzero = c.nonzero-nonzero.ensures in
    record { levels_after = λ b lists w. step-settled _ fitting ok here _ wrote.levels_after _ b lists w (passed_on _ _ took.t (took.value b lists w)); ready_2 = step-ready _ fitting ok here _ wrote.levels_after; later_value_2 = (step-later _ fitting ok here _ wrote.levels_after counts.0 nonzero, step-total _ fitting ok here _ wrote.levels_after counts.1 wrote.value nonzero) }
