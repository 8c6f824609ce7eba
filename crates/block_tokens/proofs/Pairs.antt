-- One token and its pair, under any configuration with m + l ≤ s. Assumes nothing.
use Prim.Native.Nat.{ℕ, ◌+◌, ◌≤◌, ◌<◌}
use mathlib.Core.Path.{◌≡◌, refl, ap₂}
use mathlib.Core.Bool.{true}
use Rattle.packing.proofs.Hybrid.{SplitOf, split-of, reads_as, is-split}
use Rattle.prices.specs.Book.{cluster_symbol}
use Rattle.block_tokens.specs.Tokens.{Token}
use Rattle.block_tokens.specs.Code.{Code, split_exponent, msb_in_token, lsb_in_token, symbol_in, bits_in}
use Rattle.block_tokens.specs.Reading.{Pair, pair, pair_of, splits_in, value_in}

-- every context's configuration has m + l ≤ s: check 4, with check 3
pub record Within (x : Code) : Type 0 where
  pub each : (at : ℕ) → msb_in_token x at + lsb_in_token x at ≤ split_exponent x at

-- what a token's pair is to the reader
pub record Read (x : Code) (t : Token) (p : Pair) : Type 0 where
  pub splits : splits_in x t.context p ≡ true
  pub value : value_in x t.context p ≡ t.value

module _ {x : Code} (within : Within x) where
  pub pair_read : (t : Token) → t.value ≤ 131071 → symbol_in x t < 128 → Read x t (pair_of x t)
  unfolding symbol_in bits_in cluster_symbol splits_in value_in
  pair_read t most low =
      let at = t.context in
      let p : SplitOf (split_exponent x at) (msb_in_token x at) (lsb_in_token x at) (symbol_in x t) (bits_in x t) t.value =
      record { most = most; low = low; symbol_is = refl; bits_are = refl }
      in
      record { splits = is-split _ _ _ (within.each at) _ _ p; value = reads_as _ _ _ (within.each at) _ _ p }

  -- a pair that the reader takes, and the token that it reads
  pub record Taken (at : ℕ) (p : Pair) (t : Token) : Type 0 where
    pub most : t.value ≤ 131071
    pub low : symbol_in x t < 128
    pub same : pair_of x t ≡ p

  pub read-pair : (at : ℕ) (p : Pair) → splits_in x at p ≡ true → Taken at p (record { context = at; value = value_in x at p })
  unfolding symbol_in bits_in cluster_symbol splits_in value_in
  read-pair at p e =
      let q = split-of _ _ _ (within.each at) _ _ e in
      record { most = q.most; low = rw q.symbol_is q.low; same = ap₂ pair q.symbol_is q.bits_are }
