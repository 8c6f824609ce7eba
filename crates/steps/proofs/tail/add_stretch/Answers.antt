use Rattle.std.proofs.Common.{◌≡◌, ◌≤◌, ◌<◌, length, refl, arith, le_refl}
use Rattle.least_cost.proofs.Trial.{nz-le}
use Rattle.steps.proofs.Stretches.{standing-step, continued-step, passed-some}
use Rattle.steps.proofs.Zero.{handed-back}
use Rattle.steps.proofs.tail.add_stretch.Goals as goal

pub loop-k-init : goal.loop-k-init
loop-k-init c =
    record { here = refl; standing = c.requires.standing; fewer = le_refl _; begun = λ _. refl; continued = λ b plan es el w e sh. record { first = refl; second = refl } }

pub returns-then-sum-stretch-clause-standing_after : goal.returns-then-sum-stretch-clause-standing_after
returns-then-sum-stretch-clause-standing_after c = c.loop-k.invariant.standing

pub returns-then-sum-stretch-clause-further : goal.returns-then-sum-stretch-clause-further
returns-then-sum-stretch-clause-further c =
    let inv = c.loop-k.invariant in
    (omega arith, λ here counted. passed-some (omega arith) (λ e. inv.begun (omega (arith, inv.here, e))) c.if-sum-stretch.true counted)

pub returns-then-sum-stretch-clause-continued : goal.returns-then-sum-stretch-clause-continued
returns-then-sum-stretch-clause-continued c = c.loop-k.invariant.continued

pub overflow_sub-sum : goal.overflow_sub-sum
overflow_sub-sum c =
    let small : c.nonzero-nonzero.result ≤ 1 = rw c.nonzero-nonzero.ensures (nz-le _) in
    omega (arith, small, c.if-sum-stretch.false, c.requires.bounded.1)

pub loop-k-preserved : goal.loop-k-preserved
loop-k-preserved c =
    let inv = c.loop-k.invariant in
    let here : c.loop-k.sum.k < length c.args.scan.now = omega (arith, inv.here, c.requires.bounded.0) in
    let back = handed-back _ _ c.level_at-level.ensures (inv.standing.level _ (omega (arith, inv.here)) (omega (arith, inv.here, here))) in
    let some : c.loop-k.sum.remaining ≡ 0 → ⊥ = λ e. omega (arith, e, c.if-sum-stretch.false, c.requires.bounded.1) in
    record {
      here = refl;
      standing = rw (← inv.here) (standing-step inv.standing here (rw (← inv.here) at back) c.nonzero-nonzero.ensures);
      fewer = omega (arith, inv.fewer);
      begun = λ e. absurd (omega (arith, e));
      continued = λ b plan es el w e sh.
          rw (← inv.here)
          (continued-step inv.standing here (rw (← inv.here) at back) c.nonzero-nonzero.ensures es el w e sh c.if-sum-stretch.false inv.fewer (omega (arith, inv.here)) (omega (arith, inv.here)) some c.stretch_cost-cost.ensures (inv.continued b plan es el w e sh));
    }

pub returns-clause-standing_after : goal.returns-clause-standing_after
returns-clause-standing_after c = c.loop-k.invariant.standing

pub returns-clause-further : goal.returns-clause-further
returns-clause-further c = let inv = c.loop-k.invariant in (omega (arith, inv.here), λ here counted. omega (arith, inv.here, here))

pub returns-clause-continued : goal.returns-clause-continued
returns-clause-continued c = c.loop-k.invariant.continued
