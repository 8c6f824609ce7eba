use mathlib.Core.Path.{refl}
use native.Mathlib.Omega.{arith}
use Rattle.scan.proofs.Marks.{marks-none, bytes-more, counted}
use Rattle.scan.proofs.mark.Goals as goal

pub loop-number-init : goal.loop-number-init
loop-number-init c = marks-none _ _ c.requires.by_index

pub loop-number-preserved : goal.loop-number-preserved
loop-number-preserved c =
    let out = counted in
    rw c.from-bad.ensures (bytes-more c.loop-number.marks (omega (arith, c.requires.marks_nonzero.1, c.loop-number.auto.marks)) c.loop-number.invariant c.loop-number-test.true refl out.0 out.1.0 out.1.1)
