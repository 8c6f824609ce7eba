use Rattle.std.proofs.Common.{◌≡◌, leb, get_or}
use Rattle.prices.specs.Checks.{each}
use Rattle.tallying.proofs.none_above.Given as given

abbrev pub invariant-loop-number : given.invariant-loop-number
invariant-loop-number l = each l.number-index (λ j. leb (get_or l.list j 0) l.most) ≡ leb l.top l.most
