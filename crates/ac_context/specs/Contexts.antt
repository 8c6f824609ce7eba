-- The contexts of a block's tokens, as ISO/IEC 18181-1 defines them: block context, context of the nonzero count, context of a coefficient.
-- The quant class doubles the block contexts by the Rust's map. Assumes nothing.
use Rattle.std.specs.Prelude.{ℕ, zero, suc, ◌+◌, ◌-◌, ◌*◌, ◌/◌, ◌^◌, ◌≤◌, ◌<◌, ◌≡◌, Bool, false, cond, ◌&&◌, ◌||◌, List, [], ◌∷◌, ltb, leb, eqb, get_or}

-- 15 block contexts, doubled by the quant class
abbrev pub fine_block_contexts : ℕ
fine_block_contexts = 30

-- the buckets of a nonzero count
abbrev pub non_zero_buckets : ℕ
non_zero_buckets = 37

-- the contexts of a coefficient within a block context
abbrev pub zero_density_contexts : ℕ
zero_density_contexts = 458

-- all contexts: 30 * (37 + 458)
abbrev pub fine_contexts : ℕ
fine_contexts = 14850

-- the order class of a transform, by its strategy code, 0 to 26
unfoldable pub strategy_order : List ℕ
strategy_order = 0 ∷ 1 ∷ 1 ∷ 1 ∷ 2 ∷ 3 ∷ 4 ∷ 4 ∷ 5 ∷ 5 ∷ 6 ∷ 6 ∷ 1 ∷ 1 ∷ 1 ∷ 1 ∷ 1 ∷ 1 ∷ 7 ∷ 8 ∷ 8 ∷ 9 ∷ 10 ∷ 10 ∷ 11 ∷ 12 ∷ 12 ∷ []

-- the default block context map: a row for each of Y, X and B, an entry for each of the 13 order classes
unfoldable pub block_context_map : List ℕ
block_context_map =
    0 ∷ 1 ∷ 2 ∷ 2 ∷ 3 ∷ 3 ∷ 4 ∷ 5 ∷ 6 ∷ 6 ∷ 6 ∷ 6 ∷ 6 ∷
    7 ∷ 8 ∷ 9 ∷ 9 ∷ 10 ∷ 11 ∷ 12 ∷ 13 ∷ 14 ∷ 14 ∷ 14 ∷ 14 ∷ 14 ∷
    7 ∷ 8 ∷ 9 ∷ 9 ∷ 10 ∷ 11 ∷ 12 ∷ 13 ∷ 14 ∷ 14 ∷ 14 ∷ 14 ∷ 14 ∷ []

-- the row of a channel; channels are numbered X = 0, Y = 1, B = 2
unfoldable pub channel_row : List ℕ
channel_row = 1 ∷ 0 ∷ 2 ∷ []

unfoldable pub block_context : ℕ → ℕ → ℕ
block_context channel strategy = get_or block_context_map (get_or channel_row channel 0 * 13 + get_or strategy_order strategy 0) 0

unfoldable pub fine_block_context : ℕ → ℕ → Bool → ℕ
fine_block_context channel strategy high = block_context channel strategy * 2 + cond high 1 0

-- the bucket of a count: itself below 8, 36 from 64 on, else 4 + count / 2
unfoldable pub non_zero_bucket : ℕ → ℕ
non_zero_bucket count = cond (ltb count 8) count (cond (leb 64 count) 36 (4 + count / 2))

-- the context of the nonzero count: these come first
unfoldable pub fine_non_zero_context : ℕ → ℕ → ℕ
fine_non_zero_context count block = non_zero_bucket count * fine_block_contexts + block

-- where a block context's coefficient contexts begin, behind all count contexts
unfoldable pub fine_zero_density_contexts_offset : ℕ → ℕ
fine_zero_density_contexts_offset block = non_zero_buckets * fine_block_contexts + zero_density_contexts * block

-- CoeffFreqContext, by scan position over covered blocks; index 0 is never used
unfoldable pub coeff_freq_context : List ℕ
coeff_freq_context = 0 ∷ 0 ∷ 1 ∷ 2 ∷ 3 ∷ 4 ∷ 5 ∷ 6 ∷ 7 ∷ 8 ∷ 9 ∷ 10 ∷ 11 ∷ 12 ∷ 13 ∷ 14 ∷ 15 ∷ 15 ∷ 16 ∷ 16 ∷ 17 ∷ 17 ∷ 18 ∷ 18 ∷ 19 ∷ 19 ∷ 20 ∷ 20 ∷ 21 ∷ 21 ∷ 22 ∷ 22 ∷ 23 ∷ 23 ∷ 23 ∷ 23 ∷ 24 ∷ 24 ∷ 24 ∷ 24 ∷ 25 ∷ 25 ∷ 25 ∷ 25 ∷ 26 ∷ 26 ∷ 26 ∷ 26 ∷ 27 ∷ 27 ∷ 27 ∷ 27 ∷ 28 ∷ 28 ∷ 28 ∷ 28 ∷ 29 ∷ 29 ∷ 29 ∷ 29 ∷ 30 ∷ 30 ∷ 30 ∷ 30 ∷ []

-- the same by rule, from index 1 on: one context a position below 16, then one for two, from 32 on one for four
unfoldable pub frequency_by_rule : ℕ → ℕ
frequency_by_rule i = cond (ltb i 16) (i - 1) (cond (ltb i 32) (7 + i / 2) (15 + i / 4))

-- CoeffNumNonzeroContext, by remaining count over covered blocks, rounded up; index 0 is never used
unfoldable pub coeff_num_nonzero_context : List ℕ
coeff_num_nonzero_context = 0 ∷ 0 ∷ 31 ∷ 62 ∷ 62 ∷ 93 ∷ 93 ∷ 93 ∷ 93 ∷ 123 ∷ 123 ∷ 123 ∷ 123 ∷ 152 ∷ 152 ∷ 152 ∷ 152 ∷ 152 ∷ 152 ∷ 152 ∷ 152 ∷ 180 ∷ 180 ∷ 180 ∷ 180 ∷ 180 ∷ 180 ∷ 180 ∷ 180 ∷ 180 ∷ 180 ∷ 180 ∷ 180 ∷ 206 ∷ 206 ∷ 206 ∷ 206 ∷ 206 ∷ 206 ∷ 206 ∷ 206 ∷ 206 ∷ 206 ∷ 206 ∷ 206 ∷ 206 ∷ 206 ∷ 206 ∷ 206 ∷ 206 ∷ 206 ∷ 206 ∷ 206 ∷ 206 ∷ 206 ∷ 206 ∷ 206 ∷ 206 ∷ 206 ∷ 206 ∷ 206 ∷ 206 ∷ 206 ∷ 206 ∷ []

-- the context of a coefficient at scan position k of a block of c covered blocks, within its block context: `remaining` counts the nonzero
-- levels at k or later, and `prev` is 1 where the level before is nonzero
unfoldable pub zero_density_context : ℕ → ℕ → ℕ → ℕ → ℕ
zero_density_context c remaining k prev =
    (get_or coeff_num_nonzero_context ((remaining + c - 1) / c) 0 + get_or coeff_freq_context (k / c) 0) * 2 + prev

-- CoeffNumNonzeroContext is the same from index `at` to `last`
pub record Alike (at last : ℕ) : Type 0 where
  pub from : at ≤ last
  pub most : last < 64
  pub same : (i : ℕ) → at ≤ i → i ≤ last → get_or coeff_num_nonzero_context i 0 ≡ get_or coeff_num_nonzero_context at 0

-- counts from `remaining` to `last` have the same contexts
pub record CountsAlike (c remaining last : ℕ) : Type 0 where
  pub from : remaining ≤ last
  pub most : last ≤ 63 * c
  pub same : (n k prev : ℕ) → remaining ≤ n → n ≤ last → zero_density_context c n k prev ≡ zero_density_context c remaining k prev

-- c covered blocks: a power of two, up to 1,024
pub record Covered (c log2 : ℕ) : Type 0 where
  pub power : c ≡ 2 ^ log2
  pub most : log2 ≤ 10

-- where a coefficient context is asked for: `prev` is 0 or 1, and `remaining` is at least 1 and at most what is left of the block from k on
pub record Coefficient (c remaining k prev : ℕ) : Type 0 where
  pub some : 1 ≤ remaining
  pub left : remaining + k ≤ 64 * c
  pub coded : c ≤ k
  pub flag : prev < 2

-- both as tests
unfoldable pub is_power_below : ℕ → ℕ → Bool
is_power_below zero c = false
is_power_below (suc n) c = eqb c (2 ^ n) || is_power_below n c

unfoldable pub is_covered : ℕ → Bool
is_covered c = is_power_below 11 c

unfoldable pub is_coefficient : ℕ → ℕ → ℕ → ℕ → Bool
is_coefficient c remaining k prev = leb 1 remaining && leb (remaining + k) (64 * c) && leb c k && ltb prev 2

-- r is the logarithm of c where c is a number of covered blocks, and 11 or more where it is none
pub record Logarithm (c r : ℕ) : Type 0 where
  pub power : r < 11 → c ≡ 2 ^ r
  pub tested : is_covered c ≡ ltb r 11
