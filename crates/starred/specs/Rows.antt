-- Document 01's starred examples as one list. A row states what the definitions give for its arguments.
use Rattle.std.specs.Prelude.{ℕ, false, List, [], ◌∷◌, ℤ, pos, negsuc, Float}
use Rattle.std.specs.Float.{fin}
use Rattle.packing.specs.Signed.{pack_signed}
use Rattle.packing.specs.Hybrid.{symbol_of, extra_bits_of}
use Rattle.ac_context.specs.Contexts.{non_zero_bucket}
use Rattle.candidates.specs.Candidates.{kept_of, restored_of}
use Rattle.weights.specs.Window.{window_len, restore_len}

-- the arguments first, then what is stated of them
pub data Row : Type 0 where
  split : (s m l value symbol bits : ℕ) → Row
  pack : (level : ℤ) (packed : ℕ) → Row
  bucket : (count bucket : ℕ) → Row
  kept : (current : ℤ) (candidates : List ℤ) → Row
  restored : (current : ℤ) (ideal : Float) (candidates : List ℤ) → Row
  window : (c len restoring : ℕ) → Row

-- The row for the same arguments with what the definitions give. A row holds where that changes nothing.
unfoldable pub computed : Row → Row
computed (split s m l v symbol bits) = split s m l v (symbol_of s m l v) (extra_bits_of s m l v)
computed (pack q packed) = pack q (pack_signed q)
computed (bucket n b) = bucket n (non_zero_bucket n)
computed (kept q qs) = kept q (kept_of q)
computed (restored q ideal qs) = restored q ideal (restored_of ideal q)
computed (window c len restoring) = window c (window_len c) (restore_len c)

-- 0.75, 3.25 and 3.125
abbrev x075 : Float
x075 = fin false 3 (negsuc 1)

abbrev x325 : Float
x325 = fin false 13 (negsuc 1)

abbrev x3125 : Float
x3125 = fin false 25 (negsuc 2)

-- The rows, by module. (`negsuc n` is -(n + 1).)
unfoldable pub rows : List Row
rows =
    split 4 2 0 15 15 0
    ∷ split 4 2 0 16 16 2
    ∷ split 4 2 0 255 31 5
    ∷ split 4 2 0 65536 64 14
    ∷ pack (pos 0) 0
    ∷ pack (negsuc 0) 1
    ∷ pack (pos 1) 2
    ∷ pack (negsuc 32767) 65535
    ∷ pack (pos 32768) 65536
    ∷ bucket 7 7
    ∷ bucket 8 8
    ∷ bucket 63 35
    ∷ bucket 64 36
    ∷ window 1 63 20
    ∷ window 2 126 48
    ∷ window 16 1008 256
    ∷ window 32 1024 256
    ∷ kept (pos 3) (pos 3 ∷ pos 2 ∷ pos 0 ∷ [])
    ∷ kept (negsuc 0) (negsuc 0 ∷ pos 0 ∷ [])
    ∷ kept (pos 0) (pos 0 ∷ [])
    ∷ restored (pos 0) x075 (pos 0 ∷ pos 1 ∷ pos 2 ∷ [])
    ∷ restored (pos 3) x325 (pos 3 ∷ pos 0 ∷ pos 2 ∷ pos 4 ∷ [])
    ∷ restored (pos 3) x3125 (pos 3 ∷ [])
    ∷ []
