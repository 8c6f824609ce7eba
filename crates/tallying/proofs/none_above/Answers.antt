use Rattle.std.proofs.Common.{leb, get_or, refl, sym, zero-le}
use borrow.Author.Tests.{le-leb}
use Rattle.prices.specs.Checks.{each}
use Rattle.tallying.proofs.Checks.{each-max}
use Rattle.tallying.proofs.none_above.Goals as goal

pub loop-number-init : goal.loop-number-init
unfolding each
loop-number-init c = sym (le-leb 0 c.args.most zero-le)

pub loop-number-preserved : goal.loop-number-preserved
loop-number-preserved c =
    let list = c.args.list.now in
    let at = c.loop-number in
    rw c.max-top.ensures (each-max (λ j. leb (get_or list j 0) c.args.most) at.number-index at.top (get_or list at.number-index 0) c.args.most at.invariant refl)
