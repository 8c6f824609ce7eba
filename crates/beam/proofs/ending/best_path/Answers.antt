use mathlib.Core.Path.{refl}
use Prim.Native.Nat.{zero-le}
use native.Mathlib.Omega.{arith}
use Rattle.beam.proofs.Ends.{sofar-start, sofar-more, sofar-end}
use Rattle.beam.proofs.ending.best_path.Goals as goal

pub loop-j-init : goal.loop-j-init
loop-j-init c = (refl, (zero-le, λ b w F. sofar-start _ _ _ c.infinity.ensures (omega (arith, F.few, F.count_is))))

pub total_of-cost-requires : goal.total_of-cost-requires
total_of-cost-requires c = record { countable = c.requires; j_lt_count = omega (arith, c.loop-j.invariant.0, c.loop-j-test.true) }

pub loop-j-smaller : goal.loop-j-smaller
loop-j-smaller c = omega (arith, c.loop-j-test.true)

pub loop-j-preserved : goal.loop-j-preserved
loop-j-preserved c =
    let inv = c.loop-j.invariant in
    let here = c.loop-j-test.true in
    (inv.0, (omega arith, λ b w F. sofar-more (omega (arith, F.count_is, inv.0)) (c.total_of-cost.ensures b _ w F) c.consider-best.ensures (inv.1.1 b w F)))

pub returns : goal.returns
returns c =
    let inv = c.loop-j.invariant in
    λ b w F. sofar-end _ _ b (omega (arith, F.count_is, inv.0, c.loop-j-test.false)) (inv.1.1 b w F)
