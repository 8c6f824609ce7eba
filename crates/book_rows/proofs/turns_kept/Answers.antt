use Rattle.std.proofs.Common.{◌≡◌, refl, sym, ◌∙◌, arith}
use Rattle.prices.specs.Checks.{each}
use Rattle.prices.proofs.Each.{each_more, each-fails}
use Rattle.book_rows.proofs.turns_kept.Goals as goal

pub loop-i-init : goal.loop-i-init
unfolding each
loop-i-init c = refl

pub loop-i-preserved : goal.loop-i-preserved
loop-i-preserved c = each_more _ _ c.loop-i.invariant (sym c.four_kept.ensures ∙ c.if-not-four_kept.false)

pub returns-then-not-four_kept : goal.returns-then-not-four_kept
returns-then-not-four_kept c = sym (each-fails _ _ c.loop-i.i c.loop-i-test.true (sym c.four_kept.ensures ∙ c.if-not-four_kept.true))
