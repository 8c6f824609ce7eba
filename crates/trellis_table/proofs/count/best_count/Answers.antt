use Rattle.std.proofs.Common.{◌≡◌, ◌+◌, ◌-◌, arith}
use Rattle.search_checks.proofs.Checked.{window-some}
use Rattle.trellis_table.proofs.Totals.{sofar-start, sofar-more, sofar-end, counts_some}
use Rattle.trellis_table.proofs.count.best_count.Goals as goal

pub loop-n-init : goal.loop-n-init
loop-n-init c = λ t. sofar-start _ _ _ _ _ t.counts_are (window-some t.rowable.checked) _ c.infinity.ensures

pub loop-n-preserved : goal.loop-n-preserved
loop-n-preserved c =
    let less : c.args.counts.most + 1 - c.loop-n.n - 1 ≡ c.args.counts.most + 1 - (c.loop-n.n + 1) = omega arith in
    λ t. rw less at (sofar-more (omega arith) (c.total_of-cost.ensures t) c.consider-best.ensures (c.loop-n.invariant t))

pub returns : goal.returns
returns c =
    λ t.
    let some = counts_some c.requires.rowable _ c.requires.counts_are in
    sofar-end (omega (arith, some)) (c.loop-n.invariant t)

pub returns-2 : goal.returns-2
returns-2 c =
    λ t.
    let none : c.args.counts.most + 1 - c.loop-n.n - 1 ≡ 0 = omega arith in
    sofar-end none (sofar-more (omega arith) (c.total_of-cost.ensures t) c.consider-best.ensures (c.loop-n.invariant t))
