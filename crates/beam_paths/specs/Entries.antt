-- What the code holds while a position is taken: the counts named, one path with its choices, and the paths kept so far.
use Rattle.std.specs.Prelude.{ℕ, ◌≤◌, ◌<◌, ◌≡◌, List, ℤ, length, get_or, take, T, Float}
use Rattle.std.specs.Float.Ieee.Scale.{finite}
use Rattle.least_cost.specs.Position.{Position}
use Rattle.beam_paths.specs.Path.{Path, Way, way_remaining, way_cost, way_levels}
use Rattle.beam_paths.specs.Held.{no_path, Named}
use Rattle.beam_paths.specs.declared.counts.Counts.{Counts}
use Rattle.steps.specs.Best.{considered}
use Rattle.beam_paths.specs.declared.entry.Entry.{Entry}
use Rattle.beam_paths.specs.declared.kept.Kept.{Kept}

-- the counts that are named
abbrev pub named : Counts → List ℕ
named c = take c.length c.counts

-- one way more: each `prev` keeps its own best
abbrev pub both_considered : Entry → Float → Float → ℕ → Entry
both_considered e x y choice = record { remaining = e.remaining; first = considered e.first x choice; second = considered e.second y choice }

-- path x with the level c
abbrev pub taking : Position → ℤ → Path → Path
taking q c x =
    let w : Way = record { path = x; level = c } in
    record { remaining = way_remaining w; cost = λ p. way_cost q p w; levels = λ p. way_levels w }

-- e holds path y, and where its cost is finite the choice names the way that it came by
pub record EntryIs (q : Position) (xs : List Path) (y : Path) (e : Entry) : Type 0 where
  pub remaining_is : e.remaining ≡ y.remaining
  pub first_is : e.first.cost ≡ y.cost 0
  pub second_is : e.second.cost ≡ y.cost 1
  pub first_by : T (finite (y.cost 0)) → Named q xs 0 e.first.choice y
  pub second_by : T (finite (y.cost 1)) → Named q xs 1 e.second.choice y

-- k holds the paths ys, in their order
pub record KeptIs (q : Position) (xs ys : List Path) (k : Kept) : Type 0 where
  pub count_is : length ys ≡ k.count
  pub few : length ys ≤ 3
  pub one : 0 < length ys → EntryIs q xs (get_or ys 0 no_path) k.one
  pub two : 1 < length ys → EntryIs q xs (get_or ys 1 no_path) k.two
  pub three : 2 < length ys → EntryIs q xs (get_or ys 2 no_path) k.three
