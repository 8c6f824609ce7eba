-- What a step is worked out from, and what it leaves.
use Rattle.std.specs.Prelude.{ℕ, suc, ◌+◌, ◌*◌, ◌≤◌, ◌<◌, ◌≡◌, ℤ, length, get_or}
use mathlib.Core.List.{List, Memᴰ}
use Rattle.ac_context.specs.Contexts.{Covered}
use Rattle.least_cost.specs.Position.{Position}
use Rattle.prices.specs.Book.{Book}
use Rattle.prices.specs.Checks.{book_refusal}
use Rattle.steps.specs.Place.{local_at}
use Rattle.steps.specs.Plan.{Pickable}
use Rattle.steps.specs.declared.Place.{Place}
use Rattle.beam_paths.specs.Path.{Path}
use Rattle.beam_paths.specs.Step.{stepped}
use Rattle.beam_paths.specs.Held.{PathsFor, Remembered}
use Rattle.beam_paths.specs.declared.Paths.{Paths}
use Rattle.beam_paths.specs.declared.Step.{Step}

-- a position: what prices a level there, and its candidates
pub record Spot : Type 0 where
  pub place : Place
  pub candidates : List ℤ

abbrev pub spot_of : Place → List ℤ → Spot
spot_of x levels = record { place = x; candidates = levels }

-- q is the position that the spot and the book stand for
pub record Stands (book : Book) (s : Spot) (q : Position) : Type 0 where
  pub candidates_are : q.candidates ≡ s.candidates
  pub price_is : (r p : ℕ) (c : ℤ) → p ≤ 1 → Memᴰ c s.candidates → q.price r p c ≡ local_at book s.place r p c

-- what a step is worked out from: a book that passed, candidates, at most three paths, and contexts that exist for each path's count and the next one
pub record Takeable (book : Book) (s : Spot) (paths : Paths) : Type 0 where
  pub priced : book_refusal book ≡ 0
  pub pickable : Pickable s.candidates
  pub covers : Covered s.place.covered s.place.log2
  pub coded : s.place.covered ≤ s.place.k
  pub offset : s.place.offset + 457 < 14850
  pub few : paths.count ≤ 3
  pub three : length paths.remaining ≡ 3
  pub six : length paths.costs ≡ 6
  pub left : (j : ℕ) → j < paths.count → suc (get_or paths.remaining j 0) + s.place.k ≤ 64 * s.place.covered

-- what it leaves: the paths from the position on, the bytes that they came by, and no count above the next one
pub record Taken (book : Book) (s : Spot) (paths : Paths) (r : Step) : Type 0 where
  pub stands : (q : Position) (xs : List Path) → Stands book s q → PathsFor xs paths → PathsFor (stepped q xs) r.paths
  pub remembered : (q : Position) (xs : List Path) → Stands book s q → PathsFor xs paths → Remembered q xs (stepped q xs) r.choices
  pub upto : (most : ℕ) → ((j : ℕ) → j < paths.count → get_or paths.remaining j 0 ≤ most) → (j : ℕ) → j < r.paths.count → get_or r.paths.remaining j 0 ≤ suc most
