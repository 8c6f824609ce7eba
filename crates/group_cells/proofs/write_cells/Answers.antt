use Prim.Native.Nat.{ℕ}
use mathlib.Core.Path.{◌≡◌, subst}
use native.Mathlib.Omega.{arith}
use Rattle.group_cells.specs.Grid.{Written}
use Rattle.group_cells.proofs.Grid.{written_none, written-more}
use Rattle.group_cells.proofs.write_cells.Goals as goal

pub loop-j-init : goal.loop-j-init
loop-j-init c = written_none _ _ _ _ _ _

pub loop-j-preserved : goal.loop-j-preserved
loop-j-preserved c =
    let pre = c.requires in
    written-more _ _ _ _ _ pre.channel_bound.1.0 (omega (arith, pre.channel_bound.1.1, c.loop-j-test.true)) _ _ _ _ c.loop-j.invariant c.write_row.ensures

pub returns : goal.returns
returns c =
    let a = c.args in
    let all : c.loop-j.j ≡ a.cy = omega (arith, c.loop-j.auto.j-end, c.loop-j-test.false) in
    subst (λ (j : ℕ). Written a.channel a.x a.y a.cx j a.value a.cells.now c.loop-j.cells) all c.loop-j.invariant
