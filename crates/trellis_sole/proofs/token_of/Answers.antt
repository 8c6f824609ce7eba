use lib.Ieee.{of_bits}
use mathlib.Core.Path.{refl}
use borrow.Author.Tests.{eq-eqb, ne_eqb}
use Rattle.steps.proofs.Zero.{level-back}
use Rattle.trellis_sole.specs.Sole.{token_in}
use Rattle.trellis_sole.proofs.token_of.Goals as goal

pub returns-then-context-eq0 : goal.returns-then-context-eq0
unfolding token_in of_bits
returns-then-context-eq0 c = record { first = rw (eq-eqb _ _ c.if-context-eq0.true) refl; second = rw (eq-eqb _ _ c.if-context-eq0.true) refl }

pub returns : goal.returns
unfolding token_in
returns c =
    let rated = rw (level-back _ c.requires.t) at c.rated_pair.ensures in
    record { first = rw (ne_eqb _ _ c.if-context-eq0.false) rated.0; second = rw (ne_eqb _ _ c.if-context-eq0.false) rated.1 }
