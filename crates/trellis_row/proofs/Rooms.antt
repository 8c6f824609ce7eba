-- The room of a row's counts. Assumes nothing.
use Prim.Native.Nat.{ℕ, ◌+◌, ◌-◌, ◌*◌, ◌≤◌, ◌<◌}
use native.Mathlib.Omega.{arith}
use mathlib.Core.List.{List}
use mathlib.Core.Path.{◌≡◌}
use lib.ListN.{length}
use lib.Ieee.{Float}
use Rattle.half_bytes.specs.Packed.{unpacked}
use Rattle.trellis_row.specs.Filled.{Fits}
use Rattle.trellis_row.specs.declared.work.Row.{Row}

-- of one count
pub room-of : {row : Row} {current : List Float} {choices : List ℕ} {r : ℕ} → Fits row current choices → row.least ≤ r → r ≤ row.most
    → (2 * (r - row.least) + 1 < length current) × (2 * row.at + 2 * (r - row.least) + 1 < length (unpacked choices))
room-of fits low high = (omega (arith, fits.costs, low, high), omega (arith, fits.halves, low, high))

-- writing keeps it
pub fits-kept : {row : Row} {current current' : List Float} {choices choices' : List ℕ} → Fits row current choices → length current' ≡ length current → length (unpacked choices') ≡ length (unpacked choices)
    → Fits row current' choices'
fits-kept fits size same = record { costs = omega (arith, fits.costs, size); halves = omega (arith, fits.halves, same) }
