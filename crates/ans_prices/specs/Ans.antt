-- Prices of ANS frequencies, 4,096 being the whole (ticket 2).
use Rattle.std.specs.Prelude.{ℕ, suc, ◌+◌, ◌-◌, ◌*◌, ◌/◌, ◌%◌, ◌^◌, Bool, false, cond, ◌&&◌, ltb, leb, eqb, ℤ, pos, negsuc, Float}
use Rattle.std.specs.Float.{nan, inf, fin, binary32}
use Rattle.std.specs.Float.Ieee.{up, down, sub, of_int}
use Rattle.ans_log.specs.Log.{dirty_log2}

-- frequency 0 costs 15, any other 12 less its logarithm
unfoldable pub ans_price : ℕ → Float
ans_price f = cond (eqb f 0) (fin false 15 (pos 0)) (sub binary32 (fin false 3 (pos 2)) (dirty_log2 (of_int binary32 (pos f))))

-- the whole number nearest 64 x, the lower on a tie
unfoldable pub nearest64 : Float → ℕ
nearest64 nan = 0
nearest64 (inf s) = 0
nearest64 (fin s m e) = (2 * (64 * m * up e) + down e - 1) / (2 * down e)

-- with q that number: f^64 lies between 2^(767 − q) and 2^(769 − q)
unfoldable pub near : ℕ → Float → Bool
near f x = let p = f ^ 64 * 2 ^ nearest64 x in ltb (2 ^ 767) p && ltb p (2 ^ 769)
