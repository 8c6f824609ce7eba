use Prim.Native.Nat.{◌+◌}
use mathlib.Core.Path.{ap₂}
use mathlib.Core.Bool.{◌&&◌}
use denote.Floats.{passes}
use Rattle.book_rows.specs.Row.{four_kept}
use Rattle.book_rows.proofs.Steps.{equal-bits}
use Rattle.book_rows.proofs.four_kept.Goals as goal

pub returns : goal.returns
unfolding four_kept
returns c =
    let start = c.before.before.before.before.before in
    let a = start.args in
    let read = c.shared_slice_known-4-1.given in
    let good = start.well_formed in
    ap₂ ◌&&◌
    (ap₂ ◌&&◌
    (ap₂ ◌&&◌
    (equal-bits _ a.a start.requires.a_above (read a.to) (passes _ good.1.1.0.1))
    (equal-bits _ a.b start.requires.b_above (read (a.to + 1)) (passes _ good.1.1.1.0.1)))
    (equal-bits _ a.c start.requires.c_above (read (a.to + 2)) (passes _ good.1.1.1.1.0.1)))
    (equal-bits _ a.d start.requires.d_above (read (a.to + 3)) (passes _ good.1.1.1.1.1.0.1))
