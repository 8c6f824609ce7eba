use Rattle.std.proofs.Common.{◌≡◌}
use Rattle.book_build.specs.Paint.{paint}
use Rattle.book_build.specs.Fill.{ready_entry}
use Rattle.book_build.proofs.write_ready.Given as given

abbrev pub invariant-loop-i : given.invariant-loop-i
invariant-loop-i l = l.ready ≡ paint (ready_entry l.configs l.symbols) 0 l.i l.initial.ready
