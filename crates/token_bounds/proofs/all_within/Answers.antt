use Rattle.std.proofs.Common.{◌≡◌, ◌-◌, ◌≤◌, List, ℕ, length, sym, ap, ◌∙◌, arith}
use lib.IntN.{ℤ}
use mir.Syntax.{w32}
use mir.ValLaws.{to_z-of_z}
use Rattle.bias.specs.Level.{is_level}
use Rattle.block.specs.declared.Shape.{Shape}
use Rattle.block_tokens.specs.Tokens.{levels_from, coded_levels}
use Rattle.block_tokens.specs.Writing.{all_within}
use Rattle.token_steps.specs.Steps.{Numbered, Placed}
use Rattle.token_steps.specs.declared.layout.LayoutNumbers.{LayoutNumbers}
use Rattle.token_steps.proofs.Walk.{size, coded-from, within_more, within-fails, within_none}
use Rattle.token_bounds.proofs.all_within.Goals as goal

-- all levels from scan position c on, by any shape of these numbers
whole : {p : LayoutNumbers} {scan : List ℕ} {levels : List ℤ} → Placed p scan levels → (h : Shape) → Numbered h p
    → all_within (coded_levels h scan levels) ≡ all_within (levels_from scan levels p.covered (length scan - p.covered))
whole at h laid = ap all_within (coded-from h _ _ _ _ laid.covered_is (omega (arith, size at.laid at.scanned, laid.covered_is)))

pub level_at-requires : goal.level_at-requires
level_at-requires c =
    let at = c.requires in
    record { k_in_bounds = c.loop-k-test.true; k_in_bounds_2 = rw at.scanned.long (at.scanned.order.bound _ (omega (arith, at.scanned.order.size, c.loop-k-test.true))) }

pub returns-then-not-is_level : goal.returns-then-not-is_level
returns-then-not-is_level c h laid =
    let tested = ap is_level (sym c.level_at.ensures ∙ sym (to_z-of_z w32 c.level_at.result (record { sfits = c.level_at.type_inv }))) ∙ sym c.is_level.ensures in
    sym (whole c.requires h laid ∙ c.loop-k.invariant ∙ within-fails _ _ _ _ c.loop-k-test.true (tested ∙ c.if-not-is_level.true))

pub loop-k-preserved : goal.loop-k-preserved
loop-k-preserved c =
    let tested = ap is_level (sym c.level_at.ensures ∙ sym (to_z-of_z w32 c.level_at.result (record { sfits = c.level_at.type_inv }))) ∙ sym c.is_level.ensures in
    c.loop-k.invariant ∙ within_more _ _ _ _ c.loop-k-test.true (tested ∙ c.if-not-is_level.false)

pub returns : goal.returns
returns c h laid =
    let at = c.requires in
    let starts_within : c.args.layout.covered ≤ length c.args.scan.now = omega (arith, size at.laid at.scanned) in
    let last : c.loop-k.k ≡ length c.args.scan.now = omega (arith, c.loop-k.auto.k-end starts_within, c.loop-k-test.false) in
    sym (whole at h laid ∙ c.loop-k.invariant ∙ rw last (within_none _ _ _))
