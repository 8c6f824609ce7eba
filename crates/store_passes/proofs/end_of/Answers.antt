use Prim.Native.Nat.{◌-◌, ◌+◌}
use mathlib.Core.Path.{◌≡◌, sym}
use native.Mathlib.Omega.{arith}
use Rattle.store_passes.proofs.Passes.{end-last, end_none}
use Rattle.store_passes.proofs.end_of.Goals as goal

pub returns-then-count-eq0 : goal.returns-then-count-eq0
returns-then-count-eq0 c = rw c.if-count-eq0.true (sym (end_none _))

pub overflow_add-result : goal.overflow_add-result
overflow_add-result c =
    let a = c.args in
    let e : a.count - 1 + 1 ≡ a.count = omega arith in
    let sum = rw e at (end-last a.rec.now (a.count - 1)) in
    rw c.run_at-last.ensures (record { fits = omega (arith, sum, c.requires.count_bound) })

pub returns : goal.returns
returns c =
    let a = c.args in
    let e : a.count - 1 + 1 ≡ a.count = omega arith in
    rw c.run_at-last.ensures (sym (rw e at (end-last a.rec.now (a.count - 1))))
