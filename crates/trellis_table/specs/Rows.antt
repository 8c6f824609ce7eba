-- The rows of the trellis: which counts the row of each position holds, and what the rows and choices stand for, for a band of half-width w and a window v.
use Rattle.std.specs.Prelude.{ℕ, suc, ◌+◌, ◌-◌, ◌*◌, ◌≤◌, ◌<◌, max, min, ◌≡◌, cond, not, List, ◌∷◌, length, get_or, T, ltb, ℤ, Float}
use Rattle.std.specs.Float.{nan}
use Rattle.std.specs.Float.Ieee.Scale.{finite}
use Rattle.block.specs.Block.{Block, covered, input_remaining}
use Rattle.block.specs.Band.{position_at, problem_of, tail_of, past_window}
use Rattle.block.specs.Checks.{choice_bytes, states}
use Rattle.half_bytes.specs.Packed.{unpacked}
use Rattle.least_cost.specs.Position.{nz}
use Rattle.least_cost.specs.Search.{Problem, best}
use Rattle.prices.specs.Book.{Book}
use Rattle.search_checks.specs.Checked.{positions, Checked, Searched}
use Rattle.steps.specs.declared.plan.Plan.{Plan}
use Rattle.trellis_row.specs.Row.{Elsewhere}
use Rattle.trellis_row.specs.Table.{RowFor, ChoicesFor}
use Rattle.weights.specs.declared.Window.{Window}
use Rattle.trellis_table.specs.declared.exchange.Live.{Live}
use Rattle.trellis_table.specs.declared.exchange.Live.TheVariants.{First, Second}
use Rattle.trellis_table.specs.declared.position.Counts.{Counts}
use Rattle.trellis_table.specs.declared.position.Step.{Step}

-- what the rows go by: a block that passed its checks, and a band of at most 12 to either side
pub record Rowable (w : ℕ) (book : Book) (b : Block) (p : Plan) : Type 0 where
  pub checked : Checked book b p
  pub narrow : w ≤ 12

-- the first count of a row, where `after` nonzero input levels follow the position and `past` of them lie past the window
unfoldable pub least_count : ℕ → ℕ → ℕ → ℕ
least_count w past after = max past (after - w)

-- by how much a count may rise at position i, whose level is q: a 0 that can't be restored stays
unfoldable pub rise_at : ℕ → ℕ → ℤ → ℕ
rise_at restoring i q = cond (ltb i restoring) 1 (nz q)

-- a row and its counts stand for the positions from i on; the input's count is one of them, and none is above what can remain there
pub record RowAt (w : ℕ) (v : Window) (book : Book) (b : Block) (i : ℕ) (row : List Float) (c : Counts) : Type 0 where
  pub stands : RowFor (tail_of v book b) (positions w v book b i) row c.least c.most
  pub narrow : c.most ≤ c.least + (2 * w + 1)
  pub holds : input_remaining b (covered b + i) ≤ c.most
  pub reach : c.most ≤ past_window v b + (v.length - i)

-- the first count of position i's row, and the last that it may hold
abbrev pub lowest_at : ℕ → Window → Block → ℕ → ℕ
lowest_at w v b i = least_count w (past_window v b) (input_remaining b (covered b + suc i))

abbrev pub highest_at : ℕ → Window → Block → ℕ → ℕ
highest_at w v b i = min (input_remaining b (covered b + suc i) + w) (past_window v b + (v.length - 1 - i)) + 1

-- the first position's row holds all that it may
pub record CountsAt (w : ℕ) (v : Window) (b : Block) (i : ℕ) (c : Counts) : Type 0 where
  pub least : c.least ≡ lowest_at w v b i
  pub most : i ≡ 0 → c.most ≡ highest_at w v b i

-- the first position's row, of a block and a half-width that the last step is not handed
pub record FirstRow (book : Book) (p : Plan) (live : List Float) (c : Counts) : Type 0 where
  pub width : ℕ
  pub block : Block
  pub rowable : Rowable width book block p
  pub row_is : RowAt width p.window book block 0 live c
  pub counts_are : CountsAt width p.window block 0 c
  pub room : states width ≤ length live

-- .. and its problem
abbrev pub problem_in : {book : Book} {p : Plan} {live : List Float} {c : Counts} → FirstRow book p live c → Problem
problem_in {book} {p} t = problem_of t.width p.window book t.block

-- The packed choices of position i stand for a byte each: the index of the level that a state of finite cost picks, 255 where the cost is infinite, up to
-- the row's last count, above which no cost is finite.
pub record ChosenAt (w : ℕ) (v : Window) (book : Book) (b : Block) (i : ℕ) (choices : List ℕ) : Type 0 where
  pub last : ℕ
  pub inside : (r p : ℕ) → p ≤ 1 → T (finite (best (tail_of v book b) (position_at w v book b i ∷ positions w v book b (suc i)) r p)) → r ≤ last
  pub stands : ChoicesFor (tail_of v book b) (position_at w v book b i) (positions w v book b (suc i)) (unpacked choices) (2 * (choice_bytes w * i)) (lowest_at w v b i)
  pub none : (r p : ℕ) → p ≤ 1 → lowest_at w v b i ≤ r → r ≤ last → T (not (finite (best (tail_of v book b) (position_at w v book b i ∷ positions w v book b (suc i)) r p)))
      → get_or (unpacked choices) (2 * (choice_bytes w * i) + (2 * (r - lowest_at w v b i) + p)) 0 ≡ 255

-- what a position's step leaves
pub record Stepped (w : ℕ) (v : Window) (book : Book) (b : Block) (i : ℕ) (row row' : List Float) (choices choices' : List ℕ) (s : Step) : Type 0 where
  pub row_is : RowAt w v book b i row' s.counts
  pub size : length row' ≡ length row
  pub chosen : ChosenAt w v book b i choices'
  pub elsewhere : Elsewhere (2 * (choice_bytes w * i)) (states w) (unpacked choices) (unpacked choices')
  pub after_is : s.after ≡ input_remaining b (covered b + i)
  pub counts_are : CountsAt w v b i s.counts

-- from i on every position's choices are there
pub record ChosenFrom (w : ℕ) (v : Window) (book : Book) (b : Block) (i : ℕ) (choices : List ℕ) : Type 0 where
  pub each : (j : ℕ) → i ≤ j → j < v.length → ChosenAt w v book b j choices

-- the row that is live, of two
unfoldable pub live_of : Live → List Float → List Float → List Float
live_of First first second = first
live_of Second first second = second

-- the positions from i on are done, and which row is live
pub record Rowed (w : ℕ) (v : Window) (book : Book) (b : Block) (i : ℕ) (first second : List Float) (choices : List ℕ) (s : Step) (which : Live) : Type 0 where
  pub live : RowAt w v book b i (live_of which first second) s.counts
  pub chosen : ChosenFrom w v book b i choices
  pub after_is : s.after ≡ input_remaining b (covered b + i)
  pub counts_are : i < v.length → CountsAt w v b i s.counts

-- a row's length and the choices' stay
pub record Kept (a a' b b' : List Float) (c c' : List ℕ) : Type 0 where
  pub first : length a' ≡ length a
  pub second : length b' ≡ length b
  pub choices : length c' ≡ length c

-- the first pair of a row is the tail's, for `prev` 0 and 1
pub record TailRow (v : Window) (book : Book) (b : Block) (row : List Float) : Type 0 where
  pub zero : get_or row 0 nan ≡ (tail_of v book b).cost 0
  pub one : get_or row 1 nan ≡ (tail_of v book b).cost 1

-- what the code is handed of a block before its last position is taken, the tail's row as `first` ..
pub record TailFor (book : Book) (scan : List ℕ) (source inverse : List Float) (levels : List ℤ) (p : Plan) (past : ℕ) (first : List Float) : Type 0 where
  pub searched : Searched book scan source inverse levels p
  pub past_is : past ≡ past_window p.window searched.block
  pub row_is : TailRow p.window book searched.block first

-- .. and before position i, the row after it as `next`
pub record NextFor (w : ℕ) (book : Book) (scan : List ℕ) (source inverse : List Float) (levels : List ℤ) (p : Plan) (past i after : ℕ) (next : List Float) (c : Counts) : Type 0 where
  pub searched : Searched book scan source inverse levels p
  pub past_is : past ≡ past_window p.window searched.block
  pub after_is : after ≡ input_remaining searched.block (covered searched.block + suc i)
  pub row_is : RowAt w p.window book searched.block (suc i) next c
