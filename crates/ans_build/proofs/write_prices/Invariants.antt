use Rattle.std.proofs.Common.{◌≡◌}
use Rattle.book_build.specs.Paint.{paint}
use Rattle.ans_build.specs.Ans.{ans_entry}
use Rattle.ans_build.proofs.write_prices.Given as given

abbrev pub invariant-loop-i : given.invariant-loop-i
invariant-loop-i l = l.symbols ≡ paint (ans_entry l.freqs) 0 l.i l.initial.symbols
