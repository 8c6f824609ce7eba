use native.Mathlib.Omega.{arith}
use borrow.Author.Rules.{rules}
use Rattle.prices.specs.Checks.{each}
use Rattle.prices.proofs.Each.{each-count}
use Rattle.token_bounds.proofs.all_small.Goals as goal

pub loop-level-init : goal.loop-level-init
unfolding each
loop-level-init c = search rules

pub loop-level-preserved : goal.loop-level-preserved
loop-level-preserved c =
    let loop = c.loop-level in
    (omega arith, each-count _ loop.level-index loop.bad c.large-bad.result loop.invariant.1 (search rules))
