use mathlib.Core.Path.{sym, ap, ◌∙◌}
use borrow.Author.Rules.{rules}
use Rattle.candidates.specs.Nearest.{is_ideal}
use Rattle.prices.specs.Checks.{each}
use Rattle.prices.proofs.Each.{each_more, each-fails}
use Rattle.block_checks.proofs.ideals_within.Goals as goal

pub loop-i-init : goal.loop-i-init
unfolding each
loop-i-init c = search rules

pub returns-then-not-is_ideal : goal.returns-then-not-is_ideal
returns-then-not-is_ideal c = sym (each-fails _ _ c.loop-i.i c.loop-i-test.true (ap is_ideal (sym c.ideal_at.ensures) ∙ sym c.is_ideal.ensures ∙ c.if-not-is_ideal.true))

pub loop-i-preserved : goal.loop-i-preserved
loop-i-preserved c = each_more _ _ c.loop-i.invariant (ap is_ideal (sym c.ideal_at.ensures) ∙ sym c.is_ideal.ensures ∙ c.if-not-is_ideal.false)
