-- Numbers and lists in the block file. Assumes nothing.
use Rattle.std.specs.Prelude.{ℕ, zero, suc, ◌+◌, ◌*◌, List, [], ◌∷◌, get_or, Float, ℤ}
use Rattle.std.specs.Float.Ieee.{of_bits}
use Rattle.std.specs.Float.{binary32}
use Rattle.std.proofs.Common.{to_z}
use Rattle.std.specs.Int.{w32}

-- the number that the four bytes from `at` on hold, the lowest first
unfoldable pub word_at : List ℕ → ℕ → ℕ
word_at bytes at =
    get_or bytes at 0 + 256 * get_or bytes (at + 1) 0 + 65536 * get_or bytes (at + 2) 0 + 16777216 * get_or bytes (at + 3) 0

-- f 0, f 1 and so on, n of them
unfoldable pub listed : {A : Type 0} → (ℕ → A) → ℕ → List A
listed f zero = []
listed f (suc n) = f 0 ∷ listed (λ i. f (suc i)) n

-- the float, and the level, of these four bytes
abbrev pub float_at : List ℕ → ℕ → Float
float_at bytes at = of_bits binary32 (word_at bytes at)

abbrev pub level_at : List ℕ → ℕ → ℤ
level_at bytes at = to_z w32 (word_at bytes at)

-- the n bytes that stand from `start` on
abbrev pub bytes_from : List ℕ → ℕ → ℕ → List ℕ
bytes_from bytes start = listed (λ i. get_or bytes (start + i) 0)

-- the n entries of four bytes, by what such bytes hold
abbrev pub entries_from : {A : Type 0} → (List ℕ → ℕ → A) → List ℕ → ℕ → ℕ → List A
entries_from held bytes start = listed (λ i. held bytes (start + 4 * i))
