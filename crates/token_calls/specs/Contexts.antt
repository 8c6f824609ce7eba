-- What the context calls answer (document 01, module 2).
use Rattle.std.specs.Prelude.{ℕ, Bool, ◌&&◌, ltb, Result}
use Rattle.ac_context.specs.Contexts.{fine_block_context, fine_non_zero_context, fine_zero_density_contexts_offset, zero_density_context, is_covered, is_coefficient, fine_block_contexts}
use Rattle.refusals.specs.declared.Refusal.{Refusal}
use Rattle.refusals.specs.Numbers.{answered}

-- a channel and a strategy that pass check 9
unfoldable pub block_context_reply : ℕ → ℕ → Bool → Result ℕ Refusal
block_context_reply channel strategy high =
    answered (ltb channel 3 && ltb strategy 27) (fine_block_context channel strategy high)

-- any count, and a block context below 30
unfoldable pub non_zero_context_reply : ℕ → ℕ → Result ℕ Refusal
non_zero_context_reply count block = answered (ltb block fine_block_contexts) (fine_non_zero_context count block)

unfoldable pub offset_reply : ℕ → Result ℕ Refusal
offset_reply block = answered (ltb block fine_block_contexts) (fine_zero_density_contexts_offset block)

unfoldable pub zero_density_reply : ℕ → ℕ → ℕ → ℕ → Result ℕ Refusal
zero_density_reply c remaining k prev =
    answered (is_covered c && is_coefficient c remaining k prev) (zero_density_context c remaining k prev)
