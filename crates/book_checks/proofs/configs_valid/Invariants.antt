use Rattle.std.proofs.Common.{◌≡◌, true}
use Rattle.prices.specs.Book.{cluster_valid}
use Rattle.prices.specs.Checks.{each}
use Rattle.book_checks.proofs.configs_valid.Given as given

abbrev pub invariant-loop-k : given.invariant-loop-k
invariant-loop-k l = each l.k (cluster_valid l.configs) ≡ true
