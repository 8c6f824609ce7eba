-- The first two of the writer's checks.
use Rattle.std.specs.Prelude.{ℕ, List, [], ◌∷◌, ℤ}
use Rattle.block.specs.declared.Shape.{Shape}
use Rattle.laws.specs.Refusals.{first_refused}
use Rattle.block_tokens.specs.Tokens.{block_tokens}
use Rattle.block_tokens.specs.Code.{Code}
use Rattle.block_tokens.specs.Writing.{all_within, all_coded}

-- 24 and 20, of the levels qs from scan position c on
unfoldable pub levels_refusal : Code → Shape → List ℤ → ℕ
levels_refusal x h qs = first_refused ((all_within qs, 24) ∷ (all_coded x (block_tokens h qs), 20) ∷ []) 0
