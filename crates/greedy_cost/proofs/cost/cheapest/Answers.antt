use Rattle.std.proofs.Common.{◌≡◌, length, ◌∙◌, arith}
use Rattle.steps.proofs.Listed.{pickable-back}
use Rattle.steps.proofs.Zero.{level-back}
use Rattle.greedy_cost.proofs.Costing.{considered-level, holder-next, holder-done}
use Rattle.greedy_cost.proofs.cost.cheapest.Goals as goal

pub loop-level-init : goal.loop-level-init
loop-level-init c = (rw (level-back c.args.current c.requires.t) c.requires.t, λ b w at. rw c.infinity.ensures)

pub loop-level-preserved : goal.loop-level-preserved
loop-level-preserved c =
    let inv = c.loop-level.invariant in
    let here = c.loop-level-test.true in
    let back = pickable-back c.args.candidates.now.pickable _ here in
    rw c.consider-best.ensures
    (considered-level _ _ _ inv.0 (rw back (c.args.candidates.now.pickable.level _ here)), λ b w at. holder-next _ _ _ _ _ _ here back (c.candidate_cost-cost.ensures b w at) ∙ inv.1 b w at)

pub returns : goal.returns
returns c =
    let inv = c.loop-level.invariant in
    let last : c.loop-level.level-index ≡ length c.args.candidates.now.levels.now = omega arith in
    record {
      value = λ b w at. holder-done _ _ _ _ _ _ _ _ last (level-back _ inv.0) (level-back c.args.current c.requires.t) (inv.1 b w at);
      level_kept = rw (level-back _ inv.0) inv.0;
    }
