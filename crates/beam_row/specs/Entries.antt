-- What the code holds while the ways are tried: the prices, and the best so far.
use Rattle.std.specs.Prelude.{ℕ, ◌+◌, ◌/◌, ◌%◌, ◌<◌, ◌≡◌, false, List, ℤ, pos, length, get_or, T, Float}
use Rattle.std.specs.Float.{inf, binary32}
use Rattle.std.specs.Float.Ieee.{add}
use Rattle.std.specs.Float.Ieee.Scale.{finite}
use Rattle.least_cost.specs.Position.{Position}
use Rattle.least_cost.specs.Search.{least, holder}
use Rattle.prices.specs.Book.{Book}
use Rattle.steps.specs.Place.{context_at, local_in}
use Rattle.steps.specs.declared.Place.{Place}
use Rattle.beam_paths.specs.Path.{Path, Way, way_remaining, way_cost, no_way}
use Rattle.beam_paths.specs.Step.{reaching}
use Rattle.beam_paths.specs.Held.{no_path, way_of}
use Rattle.steps.specs.Best.{considered}
use Rattle.steps.specs.declared.best.Best.{Best}
use Rattle.beam_paths.specs.declared.entry.Entry.{Entry}

-- path j has this count, and these costs for `prev` 0 and 1
pub record PathIs (xs : List Path) (j remaining : ℕ) (first second : Float) : Type 0 where
  pub here : j < length xs
  pub remaining_is : (get_or xs j no_path).remaining ≡ remaining
  pub first_is : first ≡ (get_or xs j no_path).cost 0
  pub second_is : second ≡ (get_or xs j no_path).cost 1

-- path j leads to count n where the level's `nz` is z, and its cost is then `tail`
pub record Leads (xs : List Path) (j z : ℕ) (tail : Float) (n : ℕ) : Type 0 where
  pub here : j < length xs
  pub remaining_is : (get_or xs j no_path).remaining + z ≡ n
  pub tail_is : tail ≡ (get_or xs j no_path).cost z

-- a level tried in a context, before a path that costs `tail`: each `prev` keeps its own best
abbrev pub tried : Book → Place → ℕ → ℤ → Float → ℕ → Entry → Entry
tried book x context q tail choice e =
    record {
      remaining = e.remaining;
      first = considered e.first (add binary32 (local_in book x context 0 q) tail) choice;
      second = considered e.second (add binary32 (local_in book x context 1 q) tail) choice;
    }

-- a sole level where `remaining` nonzero levels stand from here on, before a path that costs `tail`
abbrev pub alone : Book → Place → ℕ → ℤ → Float → ℕ → Entry
alone book x remaining q tail choice =
    record {
      remaining = remaining;
      first = record { cost = add binary32 (local_in book x (context_at x remaining) 0 q) tail; choice = choice };
      second = record { cost = add binary32 (local_in book x (context_at x remaining) 1 q) tail; choice = choice };
    }

-- path j with candidate i
abbrev pub way_at : Position → List Path → ℕ → ℕ → Way
way_at q xs j i = record { path = get_or xs j no_path; level = get_or q.candidates i (pos 0) }

-- w is the way that a choice names, it reaches count n, and this is its cost
pub record ByWay (q : Position) (xs : List Path) (n p : ℕ) (w : Way) (b : Best ℕ) : Type 0 where
  pub path : b.choice / 16 < length xs
  pub level : b.choice % 16 < length q.candidates
  pub way_is : way_of q xs b.choice ≡ w
  pub cost_is : b.cost ≡ way_cost q p w
  pub remaining_is : way_remaining w ≡ n

-- the first least for `prev` p of the ways that reach count n
pub record BestOf (q : Position) (xs : List Path) (n p : ℕ) (ws : List Way) (b : Best ℕ) : Type 0 where
  pub cost_is : b.cost ≡ least (way_cost q p) (inf false) (reaching n ws)
  pub by : T (finite b.cost) → ByWay q xs n p (holder (way_cost q p) (inf false) no_way (reaching n ws)) b

-- both, for the entry's count
pub record BothOf (q : Position) (xs : List Path) (ws : List Way) (e : Entry) : Type 0 where
  pub first : BestOf q xs e.remaining 0 ws e.first
  pub second : BestOf q xs e.remaining 1 ws e.second
