use Prim.Native.Nat.{◌+◌, ◌*◌}
use mathlib.Core.Path.{sym, ap, ◌∙◌}
use native.Mathlib.Omega.{arith}
use borrow.Author.Rules.{rules}
use mir.Syntax.{w32}
use mir.ValLaws.{to_z-of_z}
use Rattle.candidates.specs.Candidates.{is_current}
use Rattle.prices.specs.Checks.{each}
use Rattle.prices.proofs.Each.{each_below, each_all, each_more, each-fails}
use Rattle.scan.specs.Scan.{level_at}
use Rattle.block_checks.proofs.levels_within.Goals as goal

pub returns-then-all_within : goal.returns-then-all_within
unfolding level_at
returns-then-all_within c =
    let all = sym c.all_within.ensures ∙ c.if-all_within.true in
    let pre = c.requires in
    sym
    (each_all _ (63 * c.args.covered_blocks)
    (λ i h.
    each_below _ _ all _ (omega (arith, pre.perm.0.bound (c.args.covered_blocks + i) (omega (arith, h)), pre.levels_len))))

pub loop-i-init : goal.loop-i-init
unfolding each
loop-i-init c = search rules

pub returns-then-not-is_current : goal.returns-then-not-is_current
returns-then-not-is_current c = sym (each-fails _ _ c.loop-i.i c.loop-i-test.true
    (ap is_current (sym c.level_at.ensures ∙ sym (to_z-of_z w32 c.level_at.result (record { sfits = c.level_at.type_inv }))) ∙ sym c.is_current.ensures ∙ c.if-not-is_current.true))

pub loop-i-preserved : goal.loop-i-preserved
loop-i-preserved c = each_more _ _ c.loop-i.invariant
    (ap is_current (sym c.level_at.ensures ∙ sym (to_z-of_z w32 c.level_at.result (record { sfits = c.level_at.type_inv }))) ∙ sym c.is_current.ensures ∙ c.if-not-is_current.false)
