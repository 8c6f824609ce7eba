-- What a block's levels cost as they stand, by the definition of the searches' costs.
use Rattle.std.specs.Prelude.{ℕ, ◌+◌, ◌<◌, ◌≡◌, cond, List, ◌++◌, T, eqb, ℤ, Float}
use Rattle.std.specs.Float.Ieee.{le}
use Rattle.block.specs.Band.{half_width, problem_of}
use Rattle.block.specs.Block.{Block, with_levels, covered, input_at, input_remaining}
use Rattle.block.specs.Checks.{form_checks, content_checks}
use Rattle.block.specs.Choice.{window_levels}
use Rattle.block.specs.Cost.{rate}
use Rattle.block.specs.Outcome.{Lent}
use Rattle.block.specs.Answer.{Answer}
use Rattle.block.specs.Answer.{Cost, Refused}
use Rattle.costs.specs.Cost.{cost as is_cost}
use Rattle.laws.specs.Refusals.{first_refused}
use Rattle.least_cost.specs.Search.{whole_cost}
use Rattle.prices.specs.Book.{Book}
use Rattle.prices.specs.Checks.{book_refusal}
use Rattle.trellis.specs.Outcome.{banded_outcome}
use Rattle.weights.specs.Window.{window_of}
use Rattle.weights.specs.declared.Window.{Window}

-- The number of the first check that refuses, 0 where none does: a search's 1 to 13 and 18 in their order. No room is lent and no half-width is taken, so 14 and 26 are not made.
unfoldable pub input_refusal : Window → Book → Block → ℕ
input_refusal v book b = cond (eqb (book_refusal book) 0) (first_refused (form_checks b ++ content_checks v b) 0) (book_refusal book)

-- The whole cost of the input's levels in the window, as of any choice that a search weighs; a half-width plays no part in it. +infinity where a token has no word.
unfoldable pub input_cost : Window → Book → Block → Float
input_cost v book b = whole_cost (problem_of half_width v book b) (window_levels v b b.levels)

-- the cost, and the count of nonzero levels from scan position c on; or the refusal
unfoldable pub input_answer : Window → Book → Block → Answer
input_answer v book b =
    cond (eqb (input_refusal v book b) 0) (Cost (input_cost v book b) (input_remaining b (covered b))) (Refused (input_refusal v book b))

-- an answered cost that is at least x
pub record NoLess (x : Float) (answer : Answer) : Type 0 where
  pub cost : Float
  pub count : ℕ
  pub is : answer ≡ Cost cost count
  pub no_less : T (le x cost)

-- Of a block that had the levels `before`, those that stand there now were each charged at lambda: none was restored, or the penalty changes nothing.
abbrev pub AtLambda : Window → Block → List ℤ → Type 0
AtLambda v b before = (i : ℕ) → i < v.length → rate (with_levels b before) i (input_at b (covered b + i)) ≡ b.settings.lambda

-- What the call promises of a book and a block.
pub record PromisedIn (v : Window) (book : Book) (b : Block) (answer : Answer) : Type 0 where
  -- the answer
  pub outcome : answer ≡ input_answer v book b
  -- an answered cost is no NaN and not below 0
  pub is_cost : (x : Float) (count : ℕ) → answer ≡ Cost x count → T (is_cost x)
  -- where the trellis answers a cost, of whatever half-width and with whatever room, this call answers one that is no less
  pub never_less : (w : ℕ) (l : Lent) (x : Float) (count : ℕ) → (banded_outcome w v book b l).answer ≡ Cost x count → NoLess x answer
  -- levels that the trellis wrote cost what it answered, where it charged each at lambda and they pass the checks (a level of 32,768 does not)
  pub again : (w : ℕ) (l : Lent) (before : List ℤ) (x : Float) (count : ℕ)
      → (banded_outcome w v book (with_levels b before) l).answer ≡ Cost x count → (banded_outcome w v book (with_levels b before) l).lent.levels ≡ b.levels
      → AtLambda v b before → input_refusal v book b ≡ 0 → answer ≡ Cost x count

-- with document 01's window
abbrev pub Promised : Book → Block → Answer → Type 0
Promised book b answer = PromisedIn (window_of (covered b)) book b answer
