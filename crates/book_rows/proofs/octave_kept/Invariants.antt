use Rattle.std.proofs.Common.{◌≡◌, true, ◌+◌, ◌*◌, ◌^◌}
use Rattle.prices.specs.Checks.{each}
use Rattle.book_rows.specs.Row.{run_kept}
use Rattle.book_rows.proofs.octave_kept.Given as given

abbrev pub invariant-loop-i : given.invariant-loop-i
invariant-loop-i l = (l.runs ≡ 2 ^ l.m) × (l.period ≡ 2 ^ l.l) × (l.count ≡ 2 ^ (l.l + l.bits)) × (each l.i (λ j. each (2 ^ (l.l + l.bits)) (run_kept l.symbols l.ready (l.from + j * 2 ^ l.l) (l.to + j * 2 ^ (l.l + l.bits)) l.l l.bits)) ≡ true)
