use mathlib.Core.Path.{◌≡◌, sym, ap, ◌∙◌}
use native.Mathlib.Omega.{arith}
use Rattle.group_checks.specs.Marks.{free_cells}
use Rattle.group_checks.proofs.Marks.{cells-free-none, cells-free-more, cells-taken}
use Rattle.group_checks.proofs.free_cells.Goals as goal

pub loop-j-init : goal.loop-j-init
loop-j-init c = cells-free-none _ _ _ _ _

pub returns-then-not-free_row : goal.returns-then-not-free_row
returns-then-not-free_row c = sym (cells-taken _ _ _ _ _ _ _ c.loop-j-test.true (sym c.free_row.ensures ∙ c.if-not-free_row.true))

pub loop-j-preserved : goal.loop-j-preserved
loop-j-preserved c = cells-free-more _ _ _ _ _ _ c.loop-j.invariant (sym c.free_row.ensures ∙ c.if-not-free_row.false)

pub returns : goal.returns
returns c =
    let a = c.args in
    let all : c.loop-j.j ≡ a.cy = omega (arith, c.loop-j.auto.j-end, c.loop-j-test.false) in
    sym c.loop-j.invariant ∙ ap (free_cells a.marks.now a.channel a.x a.y a.cx) all
