use Rattle.ac_context.proofs.Bounds.{covered-some, pair-below}
use lib.Dec.{lit<}
use Prim.Native.Nat.{ℕ, ◌+◌, ◌<◌}
use mathlib.Core.Path.{ap}
use native.Mathlib.Omega.{arith}
use borrow.Author.Tests.{eq-eqb, ne_eqb}
use Rattle.steps.specs.Place.{context_at}
use Rattle.steps.proofs.Place.context.Goals as goal

pub returns-then-remaining-eq0 : goal.returns-then-remaining-eq0
unfolding context_at
returns-then-remaining-eq0 c = (rw (eq-eqb _ _ c.if-remaining-eq0.true), lit< tt)

pub zero_density_context-requires : goal.zero_density_context-requires
zero_density_context-requires c =
    let some : 0 < c.args.remaining = omega (arith, c.if-remaining-eq0.false) in
    (c.requires.covered, c.requires.coefficient some)

pub returns : goal.returns
unfolding context_at
returns c =
    let call = c in
    let some : 0 < c.args.remaining = omega (arith, call.if-remaining-eq0.false) in
    let value = call.zero_density_context.ensures.0 in
    let small = pair-below (covered-some c.requires.covered) (c.requires.coefficient some) in
    (rw (ne_eqb _ _ call.if-remaining-eq0.false) (ap (λ (x : ℕ). c.args.self.offset + x) value), omega (arith, c.requires.offset_bound))
