use Rattle.std.proofs.Common.{◌≡◌, ◌≤◌, eqb, leb, get_or}
use Rattle.prices.specs.Checks.{each}
use Rattle.ans_build.proofs.all_whole.Given as given

abbrev pub invariant-loop-frequency : given.invariant-loop-frequency
invariant-loop-frequency l = (l.bad ≤ l.frequency-index) × (each l.frequency-index (λ j. leb (get_or l.freqs j 0) 4096) ≡ eqb l.bad 0)
