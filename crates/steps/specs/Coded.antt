-- The contexts of a plan's tokens exist.
use Rattle.std.specs.Prelude.{ℕ, ◌+◌, ◌<◌}
use Rattle.ac_context.specs.Contexts.{Covered}

-- by the covered blocks and their logarithm, the offset of a level's contexts, and the count's context
pub record Coded (covered log2 first counted : ℕ) : Type 0 where
  pub covers : Covered covered log2
  pub offset : first + 457 < 14850
  pub count : counted < 14850
