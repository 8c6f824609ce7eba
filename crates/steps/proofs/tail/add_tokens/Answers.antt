use mathlib.Core.Path.{◌≡◌, refl, sym, ◌∙◌}
use native.Mathlib.Nat.{le_refl}
use native.Mathlib.Omega.{arith}
use Rattle.steps.proofs.Stretches.{both-clusters, standing-coefficient, continued-after}
use Rattle.steps.proofs.Tails.{tokens-done}
use Rattle.steps.proofs.tail.add_tokens.Goals as goal

pub loop-tail-init : goal.loop-tail-init
loop-tail-init c = (c.requires.standing, (le_refl _, λ b es el w. record { first = refl; second = refl }))

pub stretch_at-stretch-requires : goal.stretch_at-stretch-requires
stretch_at-stretch-requires c =
    let inv = c.loop-tail.invariant in
    standing-coefficient inv.0 c.requires.scan_len (omega (arith, c.requires.covered_le_k, inv.1.0)) c.loop-tail-test.true

pub add_stretch-tail-requires : goal.add_stretch-tail-requires
add_stretch-tail-requires c =
    let inv = c.loop-tail.invariant in
    let shared = c.stretch_at-stretch.ensures in
    let coded = standing-coefficient inv.0 c.requires.scan_len (omega (arith, c.requires.covered_le_k, inv.1.0)) c.loop-tail-test.true in
    record {
      clusters = both-clusters c.args.book.now c.args.plan coded shared;
      standing = inv.0;
      bounded = (omega (arith, shared.ends, c.requires.scan_len), shared.some);
    }

pub loop-tail-smaller : goal.loop-tail-smaller
loop-tail-smaller c =
    let shared = c.stretch_at-stretch.ensures in
    omega (arith, c.add_stretch-tail.ensures.further.1 shared.here shared.counted, c.add_stretch-tail.ensures.standing_after.ended)

pub loop-tail-preserved : goal.loop-tail-preserved
loop-tail-preserved c =
    let inv = c.loop-tail.invariant in
    let next = c.add_stretch-tail.ensures in
    (next.standing_after, (omega (arith, inv.1.0, next.further.0), λ b es el w. continued-after (inv.1.1 b es el w) (next.continued b _ es el w refl c.stretch_at-stretch.ensures)))

pub returns : goal.returns
returns c =
    λ b es el w.
    let sums = c.loop-tail.invariant.1.1 b es el w in
    let none : c.loop-tail.tail.remaining ≡ 0 = omega arith in
    (sym (tokens-done _ b _ _ _ _) ∙ rw none at sums.first, sym (tokens-done _ b _ _ _ _) ∙ rw none at sums.second)
