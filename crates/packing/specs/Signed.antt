-- Levels as unsigned numbers: how a decoder reads them, and how they are packed.
use Rattle.std.specs.Prelude.{ℕ, suc, ◌+◌, ◌-◌, ◌*◌, ◌/◌, ◌%◌, cond, eqb, ℤ, pos, negsuc, neg_ℤ}

-- ISO/IEC 18181-1, UnpackSigned: an even u stands for u / 2, an odd one for -((u + 1) / 2).
unfoldable pub unpack_signed : ℕ → ℤ
unpack_signed u = cond (eqb (u % 2) 0) (pos (u / 2)) (neg_ℤ (pos ((u + 1) / 2)))

-- Document 01, module 1: level v packs to 2v where v ≥ 0, else to -2v - 1. (`negsuc n` is -(n + 1).)
unfoldable pub pack_signed : ℤ → ℕ
pack_signed (pos n) = 2 * n
pack_signed (negsuc n) = 2 * suc n - 1
