-- The tokens of one block (document 02, ticket 5), before any code: a context and a value each. The count of nonzero levels from scan position c on comes
-- first, then each level from there, packed, until nothing remains.
use Rattle.std.specs.Prelude.{ℕ, zero, suc, ◌+◌, ◌*◌, ◌/◌, cond, List, [], ◌∷◌, eqb, leb, ℤ}
use Rattle.ac_context.specs.Contexts.{fine_block_context, fine_non_zero_context, fine_zero_density_contexts_offset, zero_density_context}
use Rattle.block.specs.declared.Shape.{Shape}
use Rattle.least_cost.specs.Position.{nz}
use Rattle.least_cost.specs.Choice.{remaining}
use Rattle.packing.specs.Signed.{pack_signed}
use Rattle.scan.specs.Scan.{level_at}

pub record Token : Type 0 where
  pub context : ℕ
  pub value : ℕ

-- c: the covered blocks
unfoldable pub covered_by : Shape → ℕ
covered_by h = h.cx * h.cy

-- the block context, below 30
unfoldable pub context_by : Shape → ℕ
context_by h = fine_block_context h.channel h.strategy h.qf_hi

-- the context of the count
unfoldable pub count_context : Shape → ℕ
count_context h = fine_non_zero_context h.predicted (context_by h)

-- the context of the level at scan position k, where `left` nonzero levels stand from k on, and `prev` tells whether the level before is nonzero
unfoldable pub level_context : Shape → ℕ → ℕ → ℕ → ℕ
level_context h left k prev = fine_zero_density_contexts_offset (context_by h) + zero_density_context (covered_by h) left k prev

-- `prev` at the first position: 1 exactly where the whole count is at most the block's length over 16
unfoldable pub prev_by : Shape → ℕ → ℕ
prev_by h count = cond (leb count (64 * covered_by h / 16)) 1 0

-- the nonzero levels of a list
abbrev pub nonzeros_of : List ℤ → ℕ
nonzeros_of qs = remaining 0 qs

-- the tokens of the levels from scan position k on
unfoldable pub level_tokens : Shape → ℕ → ℕ → List ℤ → List Token
level_tokens h k prev [] = []
level_tokens h k prev (q ∷ qs) =
    let left = nonzeros_of (q ∷ qs) in
    cond (eqb left 0) [] (record { context = level_context h left k prev; value = pack_signed q } ∷ level_tokens h (suc k) (nz q) qs)

-- the tokens of a block whose levels from scan position c on are qs
unfoldable pub block_tokens : Shape → List ℤ → List Token
block_tokens h qs =
    record { context = count_context h; value = nonzeros_of qs } ∷ level_tokens h (covered_by h) (prev_by h (nonzeros_of qs)) qs

-- n levels from scan position k on
unfoldable pub levels_from : List ℕ → List ℤ → ℕ → ℕ → List ℤ
levels_from scan levels k zero = []
levels_from scan levels k (suc n) = level_at scan levels k ∷ levels_from scan levels (suc k) n

-- those from scan position c on
unfoldable pub coded_levels : Shape → List ℕ → List ℤ → List ℤ
coded_levels h scan levels = levels_from scan levels (covered_by h) (63 * covered_by h)
