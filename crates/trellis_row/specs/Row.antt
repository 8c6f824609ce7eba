-- A row: the costs of the states of one position, a pair for `prev` 0 and 1 for each count from the row's first count on.
use Rattle.std.specs.Prelude.{ℕ, ◌+◌, ◌-◌, ◌*◌, ◌/◌, ◌%◌, ◌≤◌, ◌<◌, ◌≡◌, false, not, cond, ◌&&◌, ℤ, pos, get_or, length, T, leb, Float}
use mathlib.Core.List.{List, Memᴰ}
use Rattle.std.specs.Float.{nan, inf}
use Rattle.std.specs.Float.Ieee.Scale.{finite}
use Rattle.ac_context.specs.Contexts.{Covered}
use Rattle.costs.specs.Cost.{cost}
use Rattle.least_cost.specs.Search.{has_zero}
use Rattle.prices.specs.Book.{Book}
use Rattle.prices.specs.Checks.{book_refusal}
use Rattle.steps.specs.Place.{local_at}
use Rattle.steps.specs.declared.Place.{Place}
use Rattle.trellis_choice.specs.Locals.{Pickable, Located}
use Rattle.trellis_choice.specs.Chosen.{state_cost, state_level, ZeroAt}
use Rattle.trellis_choice.specs.declared.locals.Locals.{Locals}
use Rattle.trellis_row.specs.declared.row.Span.{Span}

-- what follows where r nonzero levels come after a position and `prev` is p: the next row's cost, where r lies in the span that may be read
unfoldable pub tail_at : List Float → Span → ℕ → ℕ → Float
tail_at next s r p = cond (leb s.from r && leb r s.upto) (get_or next (2 * (r - s.base) + p) nan) (inf false)

-- what follows a nonzero level where r remain, and what follows 0
unfoldable pub nonzero_tail : List Float → Span → ℕ → Float
nonzero_tail next s r = cond (leb 1 r) (tail_at next s (r - 1) 1) (inf false)

unfoldable pub zero_tail : List ℤ → List Float → Span → ℕ → Float
zero_tail levels next s r = cond (has_zero levels) (tail_at next s r 0) (inf false)

-- the entry at i of a row whose first count is `least`: the cost of count least + i / 2 with `prev` i % 2, and its level
unfoldable pub row_cost : Book → Place → List ℤ → List Float → Span → ℕ → ℕ → Float
row_cost book x levels next s least i =
    let r = least + i / 2 in
    state_cost (local_at book x r (i % 2)) (nonzero_tail next s r) (zero_tail levels next s r) levels

unfoldable pub row_level : Book → Place → List ℤ → List Float → Span → ℕ → ℕ → ℤ
row_level book x levels next s least i =
    let r = least + i / 2 in
    state_level (local_at book x r (i % 2)) (nonzero_tail next s r) (zero_tail levels next s r) levels

-- v is the cost of the row's entry i, and where that is finite the choice is the index of its level, else 255
pub record EntryIs (book : Book) (x : Place) (levels : List ℤ) (next : List Float) (s : Span) (least i : ℕ) (v : Float) (choice : ℕ) : Type 0 where
  pub cost : v ≡ row_cost book x levels next s least i
  pub level : T (finite v) → get_or levels choice (pos 0) ≡ row_level book x levels next s least i
  pub below : T (finite v) → choice < length levels
  pub none : T (not (finite v)) → choice ≡ 255

-- the first n entries of a row are there: the costs, and from `at` on the choices
pub record RowIs (book : Book) (x : Place) (levels : List ℤ) (next : List Float) (s : Span) (least at n : ℕ) (row : List Float) (choices : List ℕ) : Type 0 where
  pub entry : (i : ℕ) → i < n → EntryIs book x levels next s least i (get_or row i nan) (get_or choices (at + i) 0)

-- outside the n bytes from `at` on nothing changed
pub record Elsewhere (at n : ℕ) (before after : List ℕ) : Type 0 where
  pub size : length after ≡ length before
  pub ahead : (j : ℕ) → j < at → get_or after j 0 ≡ get_or before j 0
  pub behind : (j : ℕ) → at + n ≤ j → get_or after j 0 ≡ get_or before j 0

-- the contexts of a place exist for every count up to `most`
pub record Coding (x : Place) (most : ℕ) : Type 0 where
  pub covers : Covered x.covered x.log2
  pub coded : x.covered ≤ x.k
  pub left : most + x.k ≤ 64 * x.covered
  pub offset : x.offset + 457 < 14850

-- what a row is worked out from: a book that passed, candidates, contexts that exist for every count up to `most`, and costs throughout
pub record Workable (book : Book) (x : Place) (levels : List ℤ) (next : List Float) (s : Span) (most : ℕ) : Type 0 where
  pub priced : book_refusal book ≡ 0
  pub pickable : Pickable levels
  pub covers : Covered x.covered x.log2
  pub coded : x.covered ≤ x.k
  pub left : most + x.k ≤ 64 * x.covered
  pub offset : x.offset + 457 < 14850
  pub locals : (r p : ℕ) (q : ℤ) → r ≤ most → p ≤ 1 → Memᴰ q levels → T (cost (local_at book x r p q))
  pub starts : s.base ≤ s.from
  pub room : s.from ≤ s.upto → 2 * (s.upto - s.base) + 1 < length next
  pub tails : (r p : ℕ) → s.from ≤ r → r ≤ s.upto → p ≤ 1 → T (cost (get_or next (2 * (r - s.base) + p) nan))

-- what a count's two states are worked out from: the local costs in its context, and the index of 0 among the candidates
pub record Ready (book : Book) (x : Place) (levels : List ℤ) (next : List Float) (s : Span) (first second : List Float) (l : Locals) (zero r : ℕ) : Type 0 where
  pub work : Workable book x levels next s r
  pub located : Located (local_at book x r 0) (local_at book x r 1) levels first second l
  pub zero_at : ZeroAt levels zero
  pub zero_none : has_zero levels ≡ false → zero ≡ 255
