use native.Mathlib.Omega.{arith}
use borrow.Author.Tests.{lt-ltb, le-ltb}
use Rattle.prices.specs.Book.{symbol_at}
use Rattle.prices.proofs.symbol_at.Goals as goal

pub returns-then-symbol-gt127 : goal.returns-then-symbol-gt127
unfolding symbol_at
returns-then-symbol-gt127 c = rw (le-ltb c.args.symbol 128 (omega arith)) c.infinity.ensures

pub returns : goal.returns
unfolding symbol_at
returns c = rw (lt-ltb c.args.symbol 128 (omega arith))
