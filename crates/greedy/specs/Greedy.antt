-- The greedy search: one pass over the window, from the last position to the first. Each position takes its cheapest candidate, given the levels chosen behind it;
-- in front of it stand the input's. So each step is told of the block as it stands: its levels are the chosen ones behind the position and the input's elsewhere.
use Rattle.std.specs.Prelude.{ℕ, zero, suc, ◌+◌, ◌-◌, ◌≡◌, Bool, true, false, cond, ◌&&◌, ◌||◌, List, eqb, ℤ, get_or, length, set, Float}
use Rattle.std.specs.Float.{inf}
use Rattle.block.specs.Band.{half_width, input_after}
use Rattle.block.specs.Block.{Block, with_levels, covered, input_at, input_remaining, nonzeros_among, candidates_at}
use Rattle.block.specs.Checks.{search_refusal, valid_width}
use Rattle.block.specs.Choice.{IsChoice}
use Rattle.block.specs.Outcome.{RefusedKeeps}
use Rattle.block.specs.Answer.{Answer}
use Rattle.block.specs.Answer.{Count, Refused}
use Rattle.greedy_cost.specs.Cost.{cost_of}
use Rattle.greedy_cost.specs.Run.{none, run_start, zeros_from}
use Rattle.least_cost.specs.Position.{nz}
use Rattle.least_cost.specs.Search.{holder}
use Rattle.prices.specs.Book.{Book}
use Rattle.weights.specs.Window.{window_of}
use Rattle.weights.specs.declared.Window.{Window}

-- ---- What stands around window position i. The nonzero levels behind it are `input_after b i`.
-- the nonzero levels of all but position i, from scan position c on
unfoldable pub others_of : Block → ℕ → ℕ
others_of b i = input_after b i + nonzeros_among b.scan b.levels (covered b) i

-- whether the level in front is nonzero; 0 at the first position, whose `prev` goes by the count
unfoldable pub front_of : Block → ℕ → ℕ
front_of b zero = 0
front_of b (suc i) = nz (input_at b (covered b + i))

-- The run: with no nonzero level behind it, a nonzero level has the zeros right in front of it coded. The first of them has `prev` 1: a nonzero level stands before it,
-- or it is the first position and the whole count is 1.
unfoldable pub run_of : Book → Block → ℕ → Float
run_of book b i =
    let start = run_start b.scan b.levels (covered b) i in
    cond (eqb (input_after b i) 0) (zeros_from book b (i - start) start 1 none) none

-- ---- What level q costs at window position i, by what stands around it
unfoldable pub greedy_cost : Book → Block → ℕ → ℤ → Float
greedy_cost book b i = cost_of book b i (input_after b i) (others_of b i) (front_of b i) (run_of book b i)

-- ---- The search
-- a position stays as it is where it has one candidate, or holds a 0 behind which nothing is coded
unfoldable pub stays : Window → Block → ℕ → Bool
stays v b i = eqb (length (candidates_at v b i)) 1 || (eqb (nz (input_at b (covered b + i))) 0 && eqb (input_after b i) 0)

-- the first least, in the list's order; the current level where no cost is finite
unfoldable pub chosen : Window → Book → Block → ℕ → ℤ
chosen v book b i =
    let current = input_at b (covered b + i) in
    cond (stays v b i) current (holder (greedy_cost book b i) (inf false) current (candidates_at v b i))

-- the levels with window position i settled
unfoldable pub settled_at : Window → Book → Block → ℕ → List ℤ
settled_at v book b i = set b.levels (get_or b.scan (covered b + i) 0) (chosen v book b i)

-- the levels with window positions n - 1, n - 2 .. 0 settled, in this order
unfoldable pub settled_from : Window → Book → ℕ → Block → List ℤ
settled_from v book zero b = b.levels
settled_from v book (suc n) b = settled_from v book n (with_levels b (settled_at v book b n))

unfoldable pub greedy_levels : Window → Book → Block → List ℤ
greedy_levels v book b = settled_from v book v.length b

-- ---- What the call answers, and the levels that it leaves
pub record Outcome : Type 0 where
  pub answer : Answer
  pub levels : List ℤ

abbrev pub outcome_of : Answer → List ℤ → Outcome
outcome_of answer levels = record { answer = answer; levels = levels }

-- of a block that passed its checks: the count of nonzero levels from scan position c on, and the levels
unfoldable pub searched_outcome : Window → Book → Block → Outcome
searched_outcome v book b =
    let levels = greedy_levels v book b in
    outcome_of (Count (input_remaining (with_levels b levels) (covered b))) levels

-- the first check that refuses; 0 where none does. Greedy asks for no room, and its half-width w is checked all the same.
unfoldable pub refusal : ℕ → Window → Book → Block → ℕ
refusal w v book b = search_refusal w v book b true

-- A refusal changes no level.
unfoldable pub greedy_outcome : ℕ → Window → Book → Block → Outcome
greedy_outcome w v book b = cond (eqb (refusal w v book b) 0) (searched_outcome v book b) (outcome_of (Refused (refusal w v book b)) b.levels)

-- What an answered count says of the levels written: they are a choice, and the count is theirs. (A choice has no half-width: any will do.)
abbrev pub CountAnswered : Window → Book → Block → List ℤ → Answer → Type 0
CountAnswered v book b written answer =
    (count : ℕ) → answer ≡ Count count → IsChoice half_width v book b written × (count ≡ input_remaining (with_levels b written) (covered b))

-- What greedy promises of a book and a block: `after` is its answer, and the levels that it leaves.
pub record PromisedIn (w : ℕ) (v : Window) (book : Book) (b : Block) (after : Outcome) : Type 0 where
  -- the answer and every level
  pub outcome : after ≡ greedy_outcome w v book b
  -- .. which are the same for every half-width in range
  pub any_width : (n : ℕ) → valid_width w ≡ true → valid_width n ≡ true → after ≡ greedy_outcome n v book b
  -- the count is the levels'
  pub counted : CountAnswered v book b after.levels after.answer
  -- a refused block keeps every level
  pub keeps : RefusedKeeps b after.levels after.answer

-- with document 01's window
abbrev pub Promised : ℕ → Book → Block → Outcome → Type 0
Promised w book b after = PromisedIn w (window_of (covered b)) book b after
