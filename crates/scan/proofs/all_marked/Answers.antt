use Prim.Native.Nat.{◌<◌}
use mathlib.Core.Path.{◌≡◌}
use native.Mathlib.Omega.{arith}
use lib.ListN.{get_or, take}
use Rattle.std.proofs.lemmas.List.{get_or-take, length-take-le}
use Rattle.scan.proofs.Marks.{least-none, least_more, least-done}
use Rattle.scan.proofs.all_marked.Goals as goal

pub loop-mark-init : goal.loop-mark-init
loop-mark-init c = least-none _

pub loop-mark-preserved : goal.loop-mark-preserved
loop-mark-preserved c =
    let marks = c.args.marks.now in
    let k = c.loop-mark.mark-index in
    let below : k < c.args.n = omega (arith, c.loop-mark-test.true, length-take-le c.args.n marks c.requires) in
    let here : get_or (take c.args.n marks) k 0 ≡ get_or marks k 0 = get_or-take c.args.n marks k 0 below in
    least_more _ _ c.loop-mark.invariant (rw here at c.min-least.ensures)
