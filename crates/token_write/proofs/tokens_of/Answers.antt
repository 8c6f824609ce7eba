use Rattle.std.proofs.Common.{sym, ap, ◌∙◌, arith}
use mir.Syntax.{w32}
use mir.ValLaws.{to_z-of_z}
use Rattle.least_cost.specs.Position.{nz}
use Rattle.token_steps.proofs.Walk.{next, at_last, reached-first}
use Rattle.token_write.proofs.tokens_of.Goals as goal

pub loop-left-init : goal.loop-left-init
loop-left-init c = reached-first _

pub level_at-requires : goal.level_at-requires
level_at-requires c =
    let n = next _ _ _ _ _ _ c.loop-left.invariant.at c.loop-left-test.true in
    let s = c.args.coded.now.scanned in
    record { k_in_bounds = rw s.order.size n.below; k_in_bounds_2 = rw s.long (s.order.bound _ n.below) }

pub overflow_sub-left : goal.overflow_sub-left
overflow_sub-left c =
    let taken = c.nonzero-left.ensures ∙ ap nz (to_z-of_z w32 c.level_at.result (record { sfits = c.level_at.type_inv }) ∙ c.level_at.ensures) in
    rw taken (next _ _ _ _ _ _ c.loop-left.invariant.at c.loop-left-test.true).enough

pub loop-left-smaller : goal.loop-left-smaller
loop-left-smaller c = omega (arith, (next _ _ _ _ _ _ c.loop-left.invariant.at c.loop-left-test.true).below, c.args.coded.now.scanned.order.size)

pub loop-left-preserved : goal.loop-left-preserved
loop-left-preserved c =
    let taken = c.nonzero-left.ensures ∙ ap nz (to_z-of_z w32 c.level_at.result (record { sfits = c.level_at.type_inv }) ∙ c.level_at.ensures) in
    rw taken (record { prev = _; at = (next _ _ _ _ _ _ c.loop-left.invariant.at c.loop-left-test.true).there })

pub returns : goal.returns
returns c = rw c.args.coded.now.layout.laid.covered_is (sym (at_last _ _ _ _ _ _ c.loop-left.invariant.at c.loop-left-test.false))
