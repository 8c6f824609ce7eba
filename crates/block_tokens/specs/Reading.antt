-- How the tokens of one block are read: the refusals in their order, and the levels.
use Rattle.std.specs.Prelude.{ℕ, suc, ◌-◌, ◌*◌, Bool, cond, eqb, leb, ltb, ℤ, pos, length, replicate}
use mathlib.Core.List.{List, [], ◌∷◌, zip_with}
use Rattle.block.specs.declared.Shape.{Shape}
use Rattle.least_cost.specs.Position.{nz}
use Rattle.packing.specs.Hybrid.{read_hybrid, is_split}
use Rattle.packing.specs.Signed.{unpack_signed}
use Rattle.block_tokens.specs.Tokens.{Token, covered_by, count_context, level_context, prev_by}
use Rattle.block_tokens.specs.Code.{Code, split_exponent, msb_in_token, lsb_in_token, symbol_in, bits_in}

-- what the reader is given of a token
pub record Pair : Type 0 where
  pub symbol : ℕ
  pub bits : ℕ

abbrev pub pair : ℕ → ℕ → Pair
pair symbol bits = record { symbol = symbol; bits = bits }

-- a token as the writer gives it
abbrev pub pair_of : Code → Token → Pair
pair_of x t = pair (symbol_in x t) (bits_in x t)

-- in a context: whether the pair is a value's, and the value
unfoldable pub splits_in : Code → ℕ → Pair → Bool
splits_in x at p = is_split (split_exponent x at) (msb_in_token x at) (lsb_in_token x at) p.symbol p.bits

unfoldable pub value_in : Code → ℕ → Pair → ℕ
value_in x at p = read_hybrid (split_exponent x at) (msb_in_token x at) (lsb_in_token x at) p.symbol p.bits

-- the levels from a scan position on, to the end of the block; or the number of the refusal
pub data Reading : Type 0 where
  Levels : List ℤ → Reading
  Refused : ℕ → Reading

-- a level, in front of those read after it
unfoldable pub before : ℤ → Reading → Reading
before q (Levels qs) = Levels (q ∷ qs)
before q (Refused n) = Refused n

-- The levels from scan position k on, of which `owed` are nonzero. Nothing owed: no token may be left, and all that follows is 0. Else: 25 where more are owed than
-- positions are left, 22 where no token is left, 20 where the pair splits no value, 24 where the level is beyond ±32,768.
unfoldable pub read_levels : Code → Shape → ℕ → ℕ → ℕ → List Pair → Reading
read_levels x h k prev owed [] =
    let left = 64 * covered_by h - k in
    cond (eqb owed 0) (Levels (replicate left (pos 0))) (cond (ltb left owed) (Refused 25) (Refused 22))
read_levels x h k prev owed (p ∷ ps) =
    let left = 64 * covered_by h - k in
    let at = level_context h owed k prev in
    let q = unpack_signed (value_in x at p) in
    cond (eqb owed 0) (Refused 22)
    (cond (ltb left owed) (Refused 25)
    (cond (splits_in x at p)
    (cond (leb (value_in x at p) 65536) (before q (read_levels x h (suc k) (nz q) (owed - nz q) ps)) (Refused 24))
    (Refused 20)))

-- A block's tokens: 22 where there is not even the count, 20 where its pair splits no value, 21 where it is above 63c.
unfoldable pub read_block : Code → Shape → List Pair → Reading
read_block x h [] = Refused 22
read_block x h (p ∷ ps) =
    let count = value_in x (count_context h) p in
    cond (splits_in x (count_context h) p)
    (cond (leb count (63 * covered_by h)) (read_levels x h (covered_by h) (prev_by h count) count ps) (Refused 21))
    (Refused 20)

-- from the two lists: 22 where they differ in length
unfoldable pub read_tokens : Code → Shape → List ℕ → List ℕ → Reading
read_tokens x h symbols bits = cond (eqb (length symbols) (length bits)) (read_block x h (zip_with pair symbols bits)) (Refused 22)
