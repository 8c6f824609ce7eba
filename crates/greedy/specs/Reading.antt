-- What the parts of the search go by: lists that can be read at each window position up to one, and the counts that are kept on the way.
use Rattle.std.specs.Prelude.{ℕ, ◌+◌, ◌-◌, ◌*◌, ◌≤◌, ◌<◌, ◌≡◌, List, ℤ, length, T, Float}
use Rattle.block.specs.Block.{ideal_at, nonzeros_among}
use Rattle.candidates.specs.Candidates.{is_current}
use Rattle.candidates.specs.Nearest.{is_ideal}
use Rattle.scan.specs.Scan.{Perm, level_at}
use Rattle.steps.specs.declared.plan.Plan.{Plan}

-- a plan's window lies within its block
pub record Fitting (p : Plan) : Type 0 where
  pub some : 1 ≤ p.covered
  pub most : p.covered ≤ 1024
  pub base : p.base ≤ 1024
  pub window : p.covered + p.window.length ≤ 64 * p.covered

-- the lists are a block's, and below scan position `upto` the levels are still the input's
pub record Ready (p : Plan) (scan : List ℕ) (source inverse : List Float) (levels : List ℤ) (upto : ℕ) : Type 0 where
  pub scanned : Perm scan (64 * p.covered)
  pub sourced : length source ≡ 64 * p.covered
  pub inverted : length inverse ≡ 64 * p.covered
  pub levelled : length levels ≡ 64 * p.covered
  pub current : (k : ℕ) → p.covered ≤ k → k < upto → T (is_current (level_at scan levels k))
  pub ideals : (i : ℕ) → i < p.window.length → T (is_ideal (ideal_at scan source inverse p.scale (p.covered + i)))

-- the nonzero levels from scan position k on
abbrev pub count_from : List ℕ → List ℤ → ℕ → ℕ → ℕ
count_from scan levels c k = nonzeros_among scan levels k (64 * c - k)
