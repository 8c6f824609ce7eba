-- What is worked out once for all counts that share a context: the local cost of each candidate, and the first least among the nonzero ones.
use Rattle.std.specs.Prelude.{ℕ, ◌≡◌, true, false, cond, List, ℤ, pos, get_or, Float, eqb}
use Rattle.std.specs.Float.{inf}
use Rattle.std.specs.Float.Ieee.{lt}
pub use Rattle.steps.specs.Plan.{Pickable, Each}
use Rattle.least_cost.specs.Position.{nz}
use Rattle.least_cost.specs.Search.{least, holder, nonzeros, has_zero}
use Rattle.least_cost.specs.Factored.{runner_up}
use Rattle.trellis_choice.specs.declared.locals.Least.{Least}
use Rattle.trellis_choice.specs.declared.locals.Locals.{Locals}

-- before any cost was considered
unfoldable pub nothing : Least
nothing = record { cost = inf false; before = inf false; choice = 255 }

-- a cost that is below the least so far takes its place
unfoldable pub considered : Least → Float → ℕ → Least
considered l x j = cond (lt x l.cost) (record { cost = x; before = l.cost; choice = j }) l

-- l holds the first least of the local costs g of the nonzero levels, what it took the place of, and its index
pub record FirstLeast (g : ℤ → Float) (levels : List ℤ) (l : Least) : Type 0 where
  pub cost : l.cost ≡ least g (inf false) (nonzeros levels)
  pub before : l.before ≡ runner_up g (inf false) (inf false) (nonzeros levels)
  pub choice : get_or levels l.choice (pos 0) ≡ holder g (inf false) (pos 0) (nonzeros levels)

-- g is the local cost by level for `prev` 0, h for `prev` 1, each in an array
pub record Located (g h : ℤ → Float) (levels : List ℤ) (first second : List Float) (l : Locals) : Type 0 where
  pub first_each : Each g levels first
  pub second_each : Each h levels second
  pub least_first : FirstLeast g levels l.least_first
  pub least_second : FirstLeast h levels l.least_second
  pub zero_first : has_zero levels ≡ true → l.zero_first ≡ g (pos 0)
  pub zero_second : has_zero levels ≡ true → l.zero_second ≡ h (pos 0)

-- before any level was noted
pub record Empty (l : Locals) : Type 0 where
  pub least_first : l.least_first ≡ nothing
  pub least_second : l.least_second ≡ nothing

-- one more level, the j-th, with its local costs x and y
unfoldable pub noted : Locals → ℕ → ℤ → Float → Float → Locals
noted l j level x y =
    let zero = eqb (nz level) 0 in
    record {
      least_first = cond zero l.least_first (considered l.least_first x j);
      least_second = cond zero l.least_second (considered l.least_second y j);
      zero_first = cond zero x l.zero_first;
      zero_second = cond zero y l.zero_second;
    }
