use Rattle.std.proofs.Common.{ℤ, pos, get_or}
use lib.Ieee.{Float}
use Rattle.trellis_choice.specs.Locals.{Each}
use Rattle.trellis_choice.proofs.Tying.{Untied}
use Rattle.trellis_choice.proofs.chosen.first_tied.Given as given

abbrev pub invariant-loop-j : given.invariant-loop-j
invariant-loop-j l =
    let candidates = l.candidates.levels.now in
    (g : ℤ → Float) → Each g candidates l.local → Untied g l.tail l.cost (get_or candidates l.other (pos 0)) candidates l.j
