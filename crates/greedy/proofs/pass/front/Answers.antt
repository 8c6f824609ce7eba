use Rattle.greedy.proofs.Passing.{front-first, front-past}
use Rattle.least_cost.proofs.Trial.{nz-le}
use Rattle.least_cost.specs.Position.{nz}
use Rattle.steps.proofs.Zero.{handed-back}
use Prim.Native.Nat.{◌<◌}
use mathlib.Core.Path.{ap, ◌∙◌}
use native.Mathlib.Omega.{arith}
use lib.Dec.{lit≤}
use Rattle.greedy.proofs.pass.front.Goals as goal

pub returns-then-i-eq0 : goal.returns-then-i-eq0
returns-then-i-eq0 c = record { value = λ b es el ec. front-first b es el ec _ c.if-i-eq0.true; upper_bound = lit≤ tt }

pub overflow_add-covered : goal.overflow_add-covered
overflow_add-covered c =
    let w = c.requires in
    record { fits = omega (arith, w.most) }

pub overflow_sub-covered : goal.overflow_sub-covered
overflow_sub-covered c =
    let w = c.requires in
    omega (arith, w.some)

pub level_at-requires : goal.level_at-requires
level_at-requires c = let w = c.requires in
    record { k_in_bounds = omega (arith, w.long, w.some); k_in_bounds_2 = w.within _ (omega (arith, w.long, w.some)) }

pub returns : goal.returns
returns c =
    let w = c.requires in
    let some : 0 < c.args.i = omega (arith, c.if-i-eq0.false) in
    let back = handed-back _ _ c.level_at.ensures (w.level _ (omega arith) (omega (arith, w.some))) in
    record { value = λ b es el ec. front-past b es el ec _ some (c.nonzero.ensures ∙ ap nz back); upper_bound = rw c.nonzero.ensures (nz-le _) }
