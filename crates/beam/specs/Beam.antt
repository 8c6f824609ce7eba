-- The beam search: from the last window position to the first, at most three paths are kept (document 01). It answers the cheapest path that is left, which need not be the cheapest choice.
use Rattle.std.specs.Prelude.{ℕ, false, cond, List, [], ◌∷◌, eqb, ℤ, length, replicate, Float}
use Rattle.std.specs.Float.{inf, binary32}
use Rattle.std.specs.Float.Ieee.{add}
use Rattle.std.specs.Float.Ieee.Scale.{finite}
use Rattle.beam_paths.specs.Path.{Path, no_way}
use Rattle.beam_paths.specs.Step.{stepped}
use Rattle.block.specs.Band.{problem_of, half_width}
use Rattle.block.specs.Block.{Block, covered}
use Rattle.block.specs.Checks.{search_refusal, beam_room}
use Rattle.block.specs.Answer.{Answer}
use Rattle.block.specs.Answer.{Cost, Refused}
use Rattle.least_cost.specs.Position.{Position, Tail}
use Rattle.least_cost.specs.Search.{Problem, least, holder}
use Rattle.prices.specs.Book.{Book}
use Rattle.scan.specs.Scan.{put}
use Rattle.weights.specs.declared.Window.{Window}

-- ---- The search
-- what follows the window, as the one path to start from
unfoldable pub end_path : Tail → Path
end_path t = record { remaining = t.count; cost = t.cost; levels = λ p. [] }

-- the paths from a list of positions on
unfoldable pub beam_paths : Tail → List Position → List Path
beam_paths t [] = end_path t ∷ []
beam_paths t (q ∷ qs) = stepped q (beam_paths t qs)

-- a path's whole cost: for its first `prev`, which goes by its count, and with what the count costs
unfoldable pub path_total : Problem → Path → Float
path_total w x = add binary32 (x.cost (w.first_prev x.remaining)) (w.count_cost x.remaining)

abbrev pub paths_of : Problem → List Path
paths_of w = beam_paths w.tail w.positions

-- the first least over the paths in their order, the path that has it, its count and its levels
unfoldable pub beam_cost : Problem → Float
beam_cost w = least (path_total w) (inf false) (paths_of w)

unfoldable pub beam_path : Problem → Path
beam_path w = holder (path_total w) (inf false) no_way.path (paths_of w)

unfoldable pub beam_count : Problem → ℕ
beam_count w = (beam_path w).remaining

unfoldable pub beam_levels : Problem → List ℤ
beam_levels w = (beam_path w).levels (w.first_prev (beam_count w))

-- ---- The search of a block
-- The block's search problem, with a window v. Its band plays no part in the beam, which reads of a position the candidates and the local costs alone: any half-width gives the
-- same.
abbrev pub problem : Window → Book → Block → Problem
problem v book b = problem_of half_width v book b

-- the cost and the count found, or 16 where no path's cost is finite
unfoldable pub answered : Window → Book → Block → Answer
answered v book b =
    let p = problem v book b in
    cond (finite (beam_cost p)) (Cost (beam_cost p) (beam_count p)) (Refused 16)

-- the levels found, each at its place; after 16 the block is as it was
unfoldable pub written : Window → Book → Block → List ℤ
written v book b =
    let p = problem v book b in
    cond (finite (beam_cost p)) (put b.scan (beam_levels p) (covered b) v.length b.levels) b.levels

-- ---- What the call answers, and what the lent buffers hold afterwards
pub record Outcome : Type 0 where
  pub answer : Answer
  pub levels : List ℤ
  pub choices : List ℕ

abbrev pub outcome_of : Answer → List ℤ → List ℕ → Outcome
outcome_of answer levels choices = record { answer = answer; levels = levels; choices = choices }

-- of a block that passed its checks: all of the choices, surplus included, end as 255
unfoldable pub searched_outcome : Window → Book → Block → List ℕ → Outcome
searched_outcome v book b choices = outcome_of (answered v book b) (written v book b) (replicate (length choices) 255)

-- the number of the first check that refuses; 0 where none does. The half-width w plays no part in the search, and is checked all the same.
unfoldable pub refusal : ℕ → Window → Book → Block → List ℕ → ℕ
refusal w v book b choices = search_refusal w v book b (beam_room v.length (length choices))

-- Refused by a check, nothing changes.
unfoldable pub beam_outcome : ℕ → Window → Book → Block → List ℕ → Outcome
beam_outcome w v book b choices =
    cond (eqb (refusal w v book b choices) 0) (searched_outcome v book b choices) (outcome_of (Refused (refusal w v book b choices)) b.levels choices)
