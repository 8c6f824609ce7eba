use Prim.Native.Nat.{zero-le}
use native.Mathlib.Omega.{arith}
use Rattle.beam.proofs.Storing.{stored-none, stored_more, stored-all}
use Rattle.beam.proofs.positions.store.Goals as goal

pub loop-j-init : goal.loop-j-init
loop-j-init c = (zero-le, stored-none _ _ _)

pub loop-j-smaller : goal.loop-j-smaller
loop-j-smaller c = omega arith

pub loop-j-preserved : goal.loop-j-preserved
loop-j-preserved c =
    let inv = c.loop-j.invariant in
    (omega arith, stored_more c.loop-j-test.true c.requires.1 inv.1)

pub returns : goal.returns
returns c = stored-all c.loop-j-test.false c.loop-j.invariant.1
