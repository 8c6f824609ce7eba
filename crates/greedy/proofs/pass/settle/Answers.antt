use Rattle.greedy.proofs.Settling.{scan-of, so-far-none, next-ready, next-below, next-later, so_far_more, so-far-all}
use Rattle.greedy.proofs.pass.settle.Goals as goal

pub counts_of-counts-requires : goal.counts_of-counts-requires
counts_of-counts-requires c =
    let pre = c.requires in
    record { perm = (scan-of pre.ready, pre.ready.levelled); window_bound = (pre.fitting.window, pre.fitting.most) }

pub loop-i-init : goal.loop-i-init
loop-i-init c =
    let pre = c.requires in
    so-far-none _ pre.fitting pre.ready c.counts_of-counts.ensures.0 c.counts_of-counts.ensures.1

pub step-counts-requires : goal.step-counts-requires
step-counts-requires c =
    let pre = c.requires in
    let inv = c.loop-i.invariant in
    let some = c.loop-i-test.true in
    record { fitting = pre.fitting; ready = next-ready _ some inv; i_lt_length = next-below _ some inv; later_value = (next-later _ some inv, inv.total) }

pub loop-i-preserved : goal.loop-i-preserved
loop-i-preserved c =
    let inv = c.loop-i.invariant in
    let some = c.loop-i-test.true in
    let done = c.step-counts.ensures in
    so_far_more _ some inv done.levels_after done.ready_2 done.later_value_2.0 done.later_value_2.1

pub returns : goal.returns
returns c = let inv = c.loop-i.invariant in
    record { levels_after = so-far-all _ c.loop-i-test.false inv; value = inv.total }
