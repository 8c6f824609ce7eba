-- What the beam's answers mean, in document 01's words: when it refuses with 16, and what it answers and writes where it does not.
use Rattle.std.specs.Prelude.{ℕ, ◌≡◌, true, false, ◌↔◌, T, ℤ, Float}
use mathlib.Core.List.{List, Memᴰ}
use Rattle.std.specs.Float.{inf}
use Rattle.std.specs.Float.Ieee.{le}
use Rattle.std.specs.Float.Ieee.Scale.{finite}
use Rattle.beam_paths.specs.Path.{Path}
use Rattle.block.specs.Band.{half_width}
use Rattle.block.specs.Block.{Block, with_levels, covered, input_remaining}
use Rattle.block.specs.Checks.{valid_width}
use Rattle.block.specs.Choice.{IsChoice, window_levels}
use Rattle.block.specs.Outcome.{RefusedKeeps}
use Rattle.block.specs.Answer.{Answer}
use Rattle.block.specs.Answer.{Cost, Refused}
use Rattle.least_cost.specs.Search.{whole_cost}
use Rattle.prices.specs.Book.{Book}
use Rattle.weights.specs.Window.{window_of}
use Rattle.weights.specs.declared.Window.{Window}
use Rattle.beam.specs.Beam.{Outcome, path_total, paths_of, beam_levels, problem, refusal, beam_outcome}

-- Refused with 16 exactly when no check refuses and the kept paths all ended at an infinite cost.
abbrev pub RefusedExactly : ℕ → Window → Book → Block → List ℕ → Answer → Type 0
RefusedExactly w v book b choices answer =
    (answer ≡ Refused 16)
    ↔ ((refusal w v book b choices ≡ 0) × ((x : Path) → Memᴰ x (paths_of (problem v book b)) → path_total (problem v book b) x ≡ inf false))

-- What an answered cost and count say of the levels written.
pub record KeptCost (v : Window) (book : Book) (b : Block) (written : List ℤ) (cost : Float) (count : ℕ) : Type 0 where
  -- they are a choice: candidates in the window, the input's levels elsewhere
  pub choice : IsChoice half_width v book b written
  -- the cost and the count are theirs
  pub cost_is : cost ≡ whole_cost (problem v book b) (window_levels v b written)
  pub count_is : count ≡ input_remaining (with_levels b written) (covered b)
  pub is_finite : T (finite cost)
  -- no path that was kept costs less; the first of the cheapest was taken
  pub least : (x : Path) → Memᴰ x (paths_of (problem v book b)) → T (le cost (path_total (problem v book b) x))
  pub first_met : window_levels v b written ≡ beam_levels (problem v book b)

abbrev pub KeptAnswered : Window → Book → Block → List ℤ → Answer → Type 0
KeptAnswered v book b written answer = (cost : Float) (count : ℕ) → answer ≡ Cost cost count → KeptCost v book b written cost count

-- What the beam promises of a book, a block and the choices that it was lent: `after` is its answer, and what it leaves.
pub record PromisedIn (w : ℕ) (v : Window) (book : Book) (b : Block) (choices : List ℕ) (after : Outcome) : Type 0 where
  -- the answer and every buffer
  pub outcome : after ≡ beam_outcome w v book b choices
  -- .. which are the same for every half-width in range
  pub any_width : (n : ℕ) → valid_width w ≡ true → valid_width n ≡ true → after ≡ beam_outcome n v book b choices
  -- its 16 is exact ..
  pub exact : RefusedExactly w v book b choices after.answer
  -- .. and its cost that of the cheapest path kept
  pub kept : KeptAnswered v book b after.levels after.answer
  -- a refused block keeps every level
  pub keeps : RefusedKeeps b after.levels after.answer

-- with document 01's window
abbrev pub Promised : ℕ → Book → Block → List ℕ → Outcome → Type 0
Promised w book b choices after = PromisedIn w (window_of (covered b)) book b choices after
