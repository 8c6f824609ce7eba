-- Demand 3 of document 01, in its words: when the trellis refuses with 15, and what it answers and writes where it does not; and what document 02 adds on the width of the
-- band. Its half-width w and the window v are parameters; document 01's are 6 and `window_of c`.
use Rattle.std.specs.Prelude.{ℕ, suc, ◌*◌, ◌^◌, ◌≤◌, ◌<◌, ◌≡◌, true, false, ◌↔◌, List, T, ℤ, length, Float}
use Rattle.std.specs.Float.Ieee.{le, lt}
use Rattle.std.specs.Float.Ieee.Scale.{finite}
use Rattle.block.specs.Band.{problem_of}
use Rattle.block.specs.Block.{Block, with_levels, covered, input_remaining}
use Rattle.block.specs.Checks.{valid_width, trellis_room, wide_room}
use Rattle.block.specs.Choice.{IsChoice, window_levels}
use Rattle.block.specs.Outcome.{Lent, Result, RefusedKeeps}
use Rattle.block.specs.Answer.{Answer}
use Rattle.block.specs.Answer.{Cost, Refused}
use Rattle.exact.specs.Exact.{whole_exact}
use Rattle.least_cost.specs.Search.{Banded, count_of, whole_cost, least_levels}
use Rattle.prices.specs.Book.{Book}
use Rattle.problem.specs.Tokens.{needs_infinite}
use Rattle.weights.specs.Window.{window_of}
use Rattle.weights.specs.declared.Window.{Window}
use Rattle.trellis.specs.Outcome.{refusal, banded_outcome, wide_outcome}

-- Refused with 15 exactly when no check refuses and every choice in the band needs a token of infinite price.
abbrev pub RefusedExactly : ℕ → Window → Book → Block → Lent → Answer → Type 0
RefusedExactly w v book b l answer =
    (answer ≡ Refused 15)
    ↔ ((refusal w v book b l ≡ 0) × ((levels : List ℤ) → Banded (problem_of w v book b) levels → T (needs_infinite v book b levels)))

-- What an answered cost and count say of the levels written.
pub record LeastCost (w : ℕ) (v : Window) (book : Book) (b : Block) (written : List ℤ) (cost : Float) (count : ℕ) : Type 0 where
  -- they are a choice: candidates in the window, the input's levels elsewhere
  pub choice : IsChoice w v book b written
  -- .. in the band
  pub in_band : Banded (problem_of w v book b) (window_levels v b written)
  -- the cost and the count are theirs
  pub cost_is : cost ≡ whole_cost (problem_of w v book b) (window_levels v b written)
  pub count_is : count ≡ input_remaining (with_levels b written) (covered b)
  pub is_finite : T (finite cost)
  -- every choice in the band costs at least as much, the input's levels included
  pub least : (levels : List ℤ) → Banded (problem_of w v book b) levels → T (le cost (whole_cost (problem_of w v book b) levels))
  pub least_of_input : T (le cost (whole_cost (problem_of w v book b) (window_levels v b b.levels)))
  -- ties: a choice in the band with a smaller count costs more; and at each position, from the first on, the first of the least in the order of trial was taken
  pub smallest : (levels : List ℤ) → Banded (problem_of w v book b) levels → count_of (problem_of w v book b) levels < count → T (lt cost (whole_cost (problem_of w v book b) levels))
  pub first_tried : window_levels v b written ≡ least_levels (problem_of w v book b)
  -- Rounding: by the exact sums of their terms (the tail past the window, each rounded local cost, the count's rounded price, as whole multiples of 2^-149), no choice of
  -- finite price in the band is cheaper by more than its sums may be off: a part in 2^24 each way for each of W + 1 sums, W being the window's length.
  pub near_exact : (levels : List ℤ) → Banded (problem_of w v book b) levels → needs_infinite v book b levels ≡ false
      → whole_exact (problem_of w v book b) (window_levels v b written) * 16777215 ^ suc v.length ≤ whole_exact (problem_of w v book b) levels * 16777217 ^ suc v.length

abbrev pub LeastAnswered : ℕ → Window → Book → Block → List ℤ → Answer → Type 0
LeastAnswered w v book b written answer = (cost : Float) (count : ℕ) → answer ≡ Cost cost count → LeastCost w v book b written cost count

-- an answer that is no refusal
pub record IsCost (answer : Answer) : Type 0 where
  pub cost : Float
  pub count : ℕ
  pub is : answer ≡ Cost cost count

-- Document 02: on the same block, whatever room the narrower band was lent, a wider band that answers never costs more than a narrower one that answers; and, given
-- the room that check 14 asks, it answers wherever the narrower did.
abbrev pub NeverDearer : ℕ → Window → Book → Block → Lent → Answer → Type 0
NeverDearer w v book b l answer =
    (n : ℕ) (k : Lent) (cost : Float) (count : ℕ) → n ≤ w → (banded_outcome n v book b k).answer ≡ Cost cost count
    → ((wider : Float) (m : ℕ) → answer ≡ Cost wider m → T (le wider cost))
    × (valid_width w ≡ true → trellis_room w v.length (length l.choices) (length l.row_a) (length l.row_b) ≡ true → IsCost answer)

-- Where a byte for each choice was lent, answer and buffers are those of the trellis that takes one.
abbrev pub AsWide : ℕ → Window → Book → Block → Lent → Result → Type 0
AsWide w v book b before after =
    wide_room w v.length (length before.choices) (length before.row_a) (length before.row_b) ≡ true → after ≡ wide_outcome w v book b before

-- What the trellis promises of a book, a block and what it was lent: `after` is its answer, and what it leaves.
pub record PromisedIn (w : ℕ) (v : Window) (book : Book) (b : Block) (before : Lent) (after : Result) : Type 0 where
  -- the answer and every buffer
  pub outcome : after ≡ banded_outcome w v book b before
  -- demand 3: its 15 is exact ..
  pub exact : RefusedExactly w v book b before after.answer
  -- .. and its cost the least
  pub least : LeastAnswered w v book b after.lent.levels after.answer
  -- a wider band never costs more
  pub never_dearer : NeverDearer w v book b before after.answer
  -- half bytes change no answer
  pub as_wide : AsWide w v book b before after
  -- a refused block keeps every level
  pub keeps : RefusedKeeps b after.lent.levels after.answer

-- with document 01's window
abbrev pub Promised : ℕ → Book → Block → Lent → Result → Type 0
Promised w book b before after = PromisedIn w (window_of (covered b)) book b before after
