use Rattle.std.proofs.Common.{get_or, pos, arith, rules}
use Rattle.least_cost.specs.Position.{nz}
use Rattle.scan.proofs.Order.{sum-none, sum_more}
use Rattle.steps.proofs.Zero.{zero-byte}
use Rattle.steps.proofs.tokens.nonzeros_in.Goals as goal

pub loop-level-init : goal.loop-level-init
loop-level-init c = omega (arith, sum-none (λ j. nz (get_or c.args.levels.now j (pos 0))))

pub loop-level-preserved : goal.loop-level-preserved
loop-level-preserved c =
    let i = c.loop-level.level-index in
    let levels = c.args.levels.now in
    let level = zero-byte (get_or levels i (pos 0)) (search rules) in
    omega (arith, level, sum_more (λ j. nz (get_or levels j (pos 0))) i, c.loop-level.invariant, c.from-count.ensures)
