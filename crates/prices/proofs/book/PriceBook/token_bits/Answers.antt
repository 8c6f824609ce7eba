use Rattle.std.proofs.Common.{arith}
use Rattle.prices.specs.Book.{price}
use Rattle.prices.proofs.Held.{known, mapped}
use Rattle.prices.proofs.book.PriceBook.token_bits.Goals as goal

pub bounds-self-context : goal.bounds-self-context
bounds-self-context c = omega (arith, (known c.args.self.now).sound.contexts)

pub cluster_bits-requires-clause-cluster_bound : goal.cluster_bits-requires-clause-cluster_bound
cluster_bits-requires-clause-cluster_bound c = rw c.from.ensures (mapped c.args.self.now c.args.context c.requires.context_bound)

pub returns : goal.returns
unfolding price
returns c = rw c.from.ensures at c.cluster_bits.ensures
