use Rattle.std.proofs.Common.{◌≡◌, ◌≤◌, eqb}
use Rattle.prices.specs.Book.{at}
use Rattle.prices.specs.Checks.{each, symbol_price}
use Rattle.book_checks.proofs.symbols_priced.Given as given

abbrev pub invariant-loop-x : given.invariant-loop-x
invariant-loop-x l = (l.bad ≤ l.x-index) × (each l.x-index (λ j. symbol_price (at l.symbols j)) ≡ eqb l.bad 0)
