use Prim.Native.Nat.{◌+◌, ◌*◌, ◌^◌, ◌≤◌}
use mathlib.Core.Path.{◌≡◌}
use mathlib.Core.Bool.{true}
use lib.ListN.{get_or}
use Rattle.prices.specs.Checks.{each}
use Rattle.book_rows.proofs.Octave.{kept_at, base}
use Rattle.book_rows.proofs.row_kept.Given as given

abbrev pub invariant-loop-n : given.invariant-loop-n
invariant-loop-n l =
    (get_or l.configs (3 * l.cluster) 0 ≤ l.n)
    × (l.from ≡ 128 * l.cluster + base (get_or l.configs (3 * l.cluster) 0) l.m l.l l.n)
    × (each (2 ^ l.n) (kept_at l.configs l.symbols l.ready l.cluster) ≡ true)
