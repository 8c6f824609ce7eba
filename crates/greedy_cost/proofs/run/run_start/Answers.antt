use Rattle.std.proofs.Common.{◌≡◌, ◌+◌, ◌-◌, refl, sym, ◌∙◌, arith}
use Rattle.steps.proofs.Zero.{zero-nz, other-nz}
use Rattle.greedy_cost.proofs.Runs.{start_first, start-here, start-more}
use Rattle.greedy_cost.proofs.run.run_start.Goals as goal

pub loop-j-init : goal.loop-j-init
loop-j-init c = refl

pub returns-then-level_at-ne0 : goal.returns-then-level_at-ne0
returns-then-level_at-ne0 c =
    let again : c.loop-j.j - 1 + 1 ≡ c.loop-j.j = omega arith in
    let one = rw c.level_at.ensures at (other-nz c.level_at.result c.if-level_at-ne0.true) in
    (sym (start-here _ _ _ _ one) ∙ rw again c.loop-j.invariant, omega arith)

pub loop-j-preserved : goal.loop-j-preserved
loop-j-preserved c =
    let again : c.loop-j.j - 1 + 1 ≡ c.loop-j.j = omega arith in
    let none = rw c.level_at.ensures at (zero-nz c.level_at.result (record { sfits = c.level_at.type_inv }) c.if-level_at-ne0.false) in
    sym (start-more _ _ _ _ none) ∙ rw again c.loop-j.invariant

pub returns : goal.returns
returns c =
    let none : c.loop-j.j ≡ 0 = omega arith in
    (sym (start_first _ _ _) ∙ rw none at c.loop-j.invariant, omega arith)
