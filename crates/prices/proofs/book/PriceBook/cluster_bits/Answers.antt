use Rattle.prices.proofs.Held.{cluster-passed}
use Rattle.prices.proofs.book.PriceBook.cluster_bits.Goals as goal

pub cluster_bits-requires : goal.cluster_bits-requires
cluster_bits-requires c = record { cluster_passed = cluster-passed c.args.self.now c.requires.cluster_bound; value_bound = c.requires.value_bound }
