-- Two choices in a byte: the lower half for `prev` 0, the upper for `prev` 1; 15 for none.
use Rattle.std.specs.Prelude.{ℕ, ◌+◌, ◌*◌, ◌/◌, ◌%◌, cond, List, [], ◌∷◌, eqb}

-- the choice that half a byte stands for, 255 being none
unfoldable pub wide : ℕ → ℕ
wide half = cond (eqb half 15) 255 half

-- the room of whole bytes that a packed room stands for
unfoldable pub unpacked : List ℕ → List ℕ
unpacked [] = []
unpacked (x ∷ xs) = wide (x % 16) ∷ wide (x / 16) ∷ unpacked xs

-- what is left of a choice that was packed: itself, where it is at most 14 or none
unfoldable pub kept : ℕ → ℕ
kept choice = wide (choice % 16)
