-- What a shape gives.
use Rattle.std.specs.Prelude.{ℕ, ◌+◌, ◌≤◌, ◌<◌, ◌≡◌}
use Rattle.ac_context.specs.Contexts.{Covered, fine_zero_density_contexts_offset}
use Rattle.block.specs.declared.Shape.{Shape}
use Rattle.block_tokens.specs.Tokens.{covered_by, context_by, count_context}

pub record LaidOut (h : Shape) (covered log2 offset counts : ℕ) : Type 0 where
  pub covered_is : covered ≡ covered_by h
  pub most : covered ≤ 1024
  pub covers : Covered covered log2
  pub offset_is : offset ≡ fine_zero_density_contexts_offset (context_by h)
  pub offset_most : offset + 457 < 14850
  pub count_is : counts ≡ count_context h
  pub count_most : counts < 14850
