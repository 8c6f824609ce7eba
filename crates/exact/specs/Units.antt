-- Floats as whole multiples of their format's smallest value.
use Rattle.std.specs.Prelude.{ℕ, ◌*◌, ◌/◌, ◌^◌, Float}
use Rattle.std.specs.Float.{nan, inf, fin, Format}
use Rattle.std.specs.Float.Ieee.{low, up, down}

-- a finite float as a whole multiple of the format's smallest value (2 ^ -149 in binary32), its sign left out
unfoldable pub in_units : Format → Float → ℕ
in_units f nan = 0
in_units f (inf s) = 0
in_units f (fin s m e) = m * up e * 2 ^ low f / down e
