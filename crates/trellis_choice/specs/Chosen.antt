-- The level of one state: what it costs with what follows. The nonzero levels share what follows, x; after 0 follows z.
use Rattle.std.specs.Prelude.{ℕ, ◌<◌, ◌≡◌, Bool, true, false, not, cond, ◌&&◌, ℤ, pos, get_or, length, T, eqb, Float}
use mathlib.Core.List.{List, Memᴰ}
use Rattle.std.specs.Float.{inf, binary32}
use Rattle.std.specs.Float.Ieee.{lt, eq, add}
use Rattle.std.specs.Float.Ieee.Scale.{finite}
use Rattle.costs.specs.Cost.{cost}
use Rattle.least_cost.specs.Position.{nz}
use Rattle.least_cost.specs.Search.{least, holder, nonzeros, has_zero}
use Rattle.trellis_choice.specs.Locals.{Each, FirstLeast}
use Rattle.trellis_choice.specs.declared.locals.Least.{Least}
use Rattle.steps.specs.declared.best.Best.{Best}

-- a local cost with what follows
abbrev pub with : (ℤ → Float) → Float → ℤ → Float
with g x c = add binary32 (g c) x

-- the least over the nonzero levels, and what 0 costs where it is listed
unfoldable pub nonzero_cost : (ℤ → Float) → Float → List ℤ → Float
nonzero_cost g x levels = least (with g x) (inf false) (nonzeros levels)

unfoldable pub zero_cost : (ℤ → Float) → Float → List ℤ → Float
zero_cost g z levels = cond (has_zero levels) (with g z (pos 0)) (inf false)

-- 0 only where it is cheaper
unfoldable pub state_cost : (ℤ → Float) → Float → Float → List ℤ → Float
state_cost g x z levels = cond (lt (zero_cost g z levels) (nonzero_cost g x levels)) (zero_cost g z levels) (nonzero_cost g x levels)

unfoldable pub state_level : (ℤ → Float) → Float → Float → List ℤ → ℤ
state_level g x z levels =
    cond (lt (zero_cost g z levels) (nonzero_cost g x levels)) (pos 0) (holder (with g x) (inf false) (pos 0) (nonzeros levels))

-- what is at hand of the local costs g of the levels: each is a cost
pub record Known (g : ℤ → Float) (levels : List ℤ) (local : List Float) (least : Least) (zero : Float) : Type 0 where
  pub each : Each g levels local
  pub first : FirstLeast g levels least
  pub none : has_zero levels ≡ true → zero ≡ g (pos 0)
  pub costs : (c : ℤ) → Memᴰ c levels → T (cost (g c))

-- i is the index of 0 where it is listed
pub record ZeroAt (levels : List ℤ) (i : ℕ) : Type 0 where
  pub below : has_zero levels ≡ true → i < length levels
  pub zero : has_zero levels ≡ true → get_or levels i (pos 0) ≡ pos 0

-- the state's cost, and where it is finite the index of its level, else 255
pub record Settled (g : ℤ → Float) (x z : Float) (levels : List ℤ) (r : Best ℕ) : Type 0 where
  pub cost : r.cost ≡ state_cost g x z levels
  pub level : T (finite r.cost) → get_or levels r.choice (pos 0) ≡ state_level g x z levels
  pub below : T (finite r.cost) → r.choice < length levels
  pub none : T (not (finite r.cost)) → r.choice ≡ 255

-- a nonzero level whose local cost with the tail is x
unfoldable pub is_tie : ℤ → Float → Float → Float → Bool
is_tie level local tail x = not (eqb (nz level) 0) && eq (add binary32 local tail) x
