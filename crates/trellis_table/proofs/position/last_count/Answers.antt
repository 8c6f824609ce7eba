use Prim.Native.Nat.{ℕ, ◌+◌}
use mathlib.Core.Path.{ap}
use borrow.Author.Tests.{eq-eqb, ne_eqb}
use Rattle.trellis_table.proofs.position.last_count.Goals as goal

pub returns-then-i-eq0 : goal.returns-then-i-eq0
returns-then-i-eq0 c = rw (eq-eqb _ _ c.if-i-eq0.true) (ap (λ (n : ℕ). n + 1) c.min.ensures)

pub returns : goal.returns
returns c = rw (ne_eqb _ _ c.if-i-eq0.false)
