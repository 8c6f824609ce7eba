use Rattle.trellis_choice.proofs.Tying.{NoZero}
use Rattle.trellis_choice.proofs.chosen.zero_index.Given as given

abbrev pub invariant-loop-j : given.invariant-loop-j
invariant-loop-j l = NoZero l.candidates.levels.now l.j
