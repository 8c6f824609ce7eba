-- Hybrid unsigned integers under a configuration (s, m, l): how a decoder reads a token with its extra bits, and how a value is split into them.
use Rattle.std.specs.Prelude.{ℕ, ◌+◌, ◌-◌, ◌*◌, ◌/◌, ◌%◌, ◌^◌, Bool, ◌&&◌, cond, leb, ltb}
use Rattle.std.specs.Float.Ieee.{size}
use Rattle.packing.specs.declared.Split.{Split}

-- ---- what ISO/IEC 18181-1 says of reading

-- How many extra bits a decoder reads after token t.
unfoldable pub extra_bits_read : (s m l t : ℕ) → ℕ
extra_bits_read s m l t = cond (ltb t (2 ^ s)) 0 (s - m - l + (t - 2 ^ s) / 2 ^ (m + l))

-- The value that a decoder reads from token t and the number b that its extra bits make.
unfoldable pub read_hybrid : (s m l t b : ℕ) → ℕ
read_hybrid s m l t b =
    let low = t % 2 ^ l in
    let high = t / 2 ^ l % 2 ^ m + 2 ^ m in
    cond (ltb t (2 ^ s)) t ((high * 2 ^ extra_bits_read s m l t + b) * 2 ^ l + low)

-- ---- what document 01, module 1 says of splitting

-- The position of the top one bit of v, for v above 0.
unfoldable pub top_bit : ℕ → ℕ
top_bit v = size v - 1

-- Below 2 ^ s the symbol is the value. Else, with n the top one bit's position: 2 ^ s, n - s times 2 ^ (m + l), the m bits under the top bit times 2 ^ l, and the lowest l bits.
unfoldable pub symbol_of : (s m l v : ℕ) → ℕ
symbol_of s m l v =
    let n = top_bit v in
    cond (ltb v (2 ^ s)) v (2 ^ s + (n - s) * 2 ^ (m + l) + v / 2 ^ (n - m) % 2 ^ m * 2 ^ l + v % 2 ^ l)

-- How many extra bits: none below 2 ^ s, else n - m - l.
unfoldable pub extra_bits_of : (s m l v : ℕ) → ℕ
extra_bits_of s m l v = cond (ltb v (2 ^ s)) 0 (top_bit v - m - l)

-- The number that the extra bits make: the bits of the value that the symbol leaves out.
unfoldable pub extra_value_of : (s m l v : ℕ) → ℕ
extra_value_of s m l v = cond (ltb v (2 ^ s)) 0 (v / 2 ^ l % 2 ^ (top_bit v - m - l))

-- The three together, as the code returns them.
unfoldable pub split : (s m l v : ℕ) → Split
split s m l v =
    record { symbol = symbol_of s m l v; extra_bits = extra_bits_of s m l v; bits = extra_value_of s m l v }

-- A configuration that check 4 passes: 84 of them. Its symbols may lie above 127, where a cluster has no prices.
unfoldable pub valid_config : (s m l : ℕ) → Bool
valid_config s m l = leb s 6 && leb (m + l) s

-- ---- which pairs of a symbol and extra bits a value has (document 02, ticket 5)

-- The symbol is one of the 128, the number fits its extra bits, and what a decoder reads is at most 131,071.
unfoldable pub is_split : (s m l t b : ℕ) → Bool
is_split s m l t b = ltb t 128 && ltb b (2 ^ extra_bits_read s m l t) && leb (read_hybrid s m l t b) 131071
