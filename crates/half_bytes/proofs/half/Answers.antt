use native.Mathlib.Omega.{arith}
use Rattle.half_bytes.proofs.Laws.{low-at, high-at}
use Rattle.half_bytes.proofs.half.Goals as goal

pub returns-then-prev-eq0 : goal.returns-then-prev-eq0
returns-then-prev-eq0 c = (low-at _ _ _ c.requires.0 c.if-prev-eq0.true, omega arith)

pub returns-else-prev-eq0 : goal.returns-else-prev-eq0
returns-else-prev-eq0 c = (high-at _ _ _ c.requires.0 c.requires.1 c.if-prev-eq0.false, omega (arith, c.shared_slice_known-else-prev-eq0-1.given c.args.k))
