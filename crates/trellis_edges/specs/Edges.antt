-- A row that is worked out edge by edge. Into the states of count r lead the nonzero levels, from count r - 1 of the next row, and 0, from count r. Counts of the next row are
-- taken in ascending order, so a state meets all its nonzero levels before its 0: the order of trial.
use Rattle.std.specs.Prelude.{ℕ, ◌+◌, ◌-◌, ◌*◌, ◌≤◌, ◌<◌, ◌≡◌, false, not, cond, List, [], ℤ, pos, get_or, length, set, take, T, Float}
use Rattle.std.specs.Float.{nan, inf}
use Rattle.std.specs.Float.Ieee.{lt}
use Rattle.std.specs.Float.Ieee.Scale.{finite}
use Rattle.costs.specs.Cost.{cost}
use Rattle.least_cost.specs.Search.{holder, nonzeros}
use Rattle.half_bytes.specs.Packed.{unpacked}
use Rattle.prices.specs.Book.{Book}
use Rattle.prices.specs.Contents.{contents}
use Rattle.steps.specs.Place.{local_at}
use Rattle.steps.specs.declared.Place.{Place}
use Rattle.trellis_choice.specs.Chosen.{with, nonzero_cost, zero_cost}
use Rattle.trellis_row.specs.Row.{nonzero_tail, zero_tail}
use Rattle.trellis_row.specs.declared.row.Span.{Span}
use Rattle.trellis_row.specs.declared.work.Row.{Row}

-- of an edge's cost x and the cost v that a state has, the lesser; the choice goes with it: `considered` of `steps`, by its fields
unfoldable pub lesser : Float → Float → Float
lesser x v = cond (lt x v) x v

unfoldable pub choice_of : Float → Float → ℕ → ℕ → ℕ
choice_of x v j choice = cond (lt x v) j choice

-- an edge into the two states at i, which costs u for `prev` 0 and y for `prev` 1
pub record Updated (at i j : ℕ) (u y : Float) (row row' : List Float) (choices choices' : List ℕ) : Type 0 where
  pub costs : row' ≡ set (set row i (lesser u (get_or row i nan))) (i + 1) (lesser y (get_or row (i + 1) nan))
  pub marks : choices' ≡ set (set choices (at + i) (choice_of u (get_or row i nan) j (get_or choices (at + i) 0))) (at + i + 1) (choice_of y (get_or row (i + 1) nan) j (get_or choices (at + i + 1) 0))

-- a state over the edges that were tried: the nonzero levels of ns, and 0 if it is among zs
unfoldable pub tried_cost : (ℤ → Float) → Float → Float → List ℤ → List ℤ → Float
tried_cost g x z ns zs = cond (lt (zero_cost g z zs) (nonzero_cost g x ns)) (zero_cost g z zs) (nonzero_cost g x ns)

unfoldable pub tried_level : (ℤ → Float) → Float → Float → List ℤ → List ℤ → ℤ
tried_level g x z ns zs = cond (lt (zero_cost g z zs) (nonzero_cost g x ns)) (pos 0) (holder (with g x) (inf false) (pos 0) (nonzeros ns))

-- what a state has after these edges: a cost, and the index of its level, 255 where the cost is infinite
pub record Held (g : ℤ → Float) (x z : Float) (levels ns zs : List ℤ) (v : Float) (choice : ℕ) : Type 0 where
  pub sound : T (cost v)
  pub cost : v ≡ tried_cost g x z ns zs
  pub level : T (finite v) → get_or levels choice (pos 0) ≡ tried_level g x z ns zs
  pub below : T (finite v) → choice < length levels
  pub none : T (not (finite v)) → choice ≡ 255

-- the state of count r for `prev` p, where it stands in a row whose first count is `least`
abbrev pub StateIs : Book → Place → List ℤ → List Float → Span → ℕ → ℕ → List Float → List ℕ → ℕ → ℕ → List ℤ → List ℤ → Type 0
StateIs book x levels next s least at row choices r p ns zs =
    Held (local_at book x r p) (nonzero_tail next s r) (zero_tail levels next s r) levels ns zs (get_or row (2 * (r - least) + p) nan) (get_or choices (at + (2 * (r - least) + p)) 0)

-- all edges from counts below n were tried, and of those from n the first j
pub record Tried (book : Book) (x : Place) (levels : List ℤ) (next : List Float) (s : Span) (least most at n j : ℕ) (row : List Float) (choices : List ℕ) : Type 0 where
  pub done : (r p : ℕ) → least ≤ r → r ≤ most → p ≤ 1 → r < n → StateIs book x levels next s least at row choices r p levels levels
  pub here : (p : ℕ) → least ≤ n → n ≤ most → p ≤ 1 → StateIs book x levels next s least at row choices n p levels (take j levels)
  pub next_one : (p : ℕ) → least ≤ n + 1 → n + 1 ≤ most → p ≤ 1 → StateIs book x levels next s least at row choices (n + 1) p (take j levels) []
  pub above : (r p : ℕ) → least ≤ r → r ≤ most → p ≤ 1 → n + 1 < r → StateIs book x levels next s least at row choices r p [] []

-- .. of a row as the code has it
abbrev pub TriedIn : Row → ℕ → ℕ → List Float → List ℕ → Type 0
TriedIn row n j current choices =
    Tried (contents row.book.now) row.place row.candidates.levels.now row.next.now row.span row.least row.most (2 * row.at) n j current (unpacked choices)

-- n states at +infinity, their choices from `at` on
pub record Cleared (at n : ℕ) (row : List Float) (choices : List ℕ) : Type 0 where
  pub costs : (i : ℕ) → i < n → get_or row i nan ≡ inf false
  pub marks : (i : ℕ) → i < n → get_or choices (at + i) 0 ≡ 255
