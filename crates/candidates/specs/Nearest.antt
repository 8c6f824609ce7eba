-- The nearest whole number to a float, halves away from zero, and the ideals that module 6 takes. Definitions only.
use Rattle.std.specs.Prelude.{ℕ, ◌+◌, ◌*◌, ◌/◌, Bool, true, false, cond, ◌&&◌, ℤ, pos, neg_ℤ, Float}
use Rattle.std.specs.Float.{nan, inf, fin}
use Rattle.std.specs.Float.Ieee.{up, down, le}

-- a number with a sign
abbrev pub signed : Bool → ℕ → ℤ
signed s n = cond s (neg_ℤ (pos n)) (pos n)

-- m * 2 ^ e to the nearest whole number: the whole part of its size and a half, with its sign. 0 for what is not finite
unfoldable pub nearest_of : Float → ℤ
nearest_of nan = pos 0
nearest_of (inf s) = pos 0
nearest_of (fin s m e) = signed s ((m * up e * 2 + down e) / (down e * 2))

-- the ideals that the leaf takes: -32,767 to 32,767, so no NaN
unfoldable pub is_ideal : Float → Bool
is_ideal x = le (fin true 32767 (pos 0)) x && le x (fin false 32767 (pos 0))
