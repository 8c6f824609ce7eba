-- The search for a least cost, from the last position to the first, and the walk that reads the chosen levels off. Assumes nothing.
use Rattle.std.specs.Prelude.{ℕ, zero, suc, ◌-◌, Bool, false, not, ◌||◌, cond, List, [], ◌∷◌, ◌++◌, ℤ, pos, T, eqb, Float}
use Rattle.std.specs.Float.{inf, binary32}
use Rattle.std.specs.Float.Ieee.{add, lt}
use Rattle.std.specs.Float.Ieee.Scale.{finite}
use Rattle.least_cost.specs.Position.{Position, Tail, nz, allowed}
use Rattle.least_cost.specs.Choice.{Choice, remaining, in_band, cost_of, has_infinite}

-- ---- The first least: a list is gone through in order, from a start value v, and only what is below the best so far takes its place.
-- The value that stands at the end, and the element that it is of (d where nothing was below v).
unfoldable pub least : {A : Type 0} → (A → Float) → Float → List A → Float
least g v [] = v
least g v (c ∷ cs) = least g (cond (lt (g c) v) (g c) v) cs

unfoldable pub holder : {A : Type 0} → (A → Float) → Float → A → List A → A
holder g v d [] = d
holder g v d (c ∷ cs) = holder g (cond (lt (g c) v) (g c) v) (cond (lt (g c) v) c d) cs

-- ---- The candidates in the order in which they are tried: the nonzero ones as listed, then 0 if it is listed
unfoldable pub nonzeros : List ℤ → List ℤ
nonzeros [] = []
nonzeros (c ∷ cs) = cond (eqb (nz c) 0) (nonzeros cs) (c ∷ nonzeros cs)

unfoldable pub has_zero : List ℤ → Bool
has_zero [] = false
has_zero (c ∷ cs) = eqb (nz c) 0 || has_zero cs

unfoldable pub trial : List ℤ → List ℤ
trial cs = nonzeros cs ++ cond (has_zero cs) (pos 0 ∷ []) []

-- ---- The recursion
-- the cost of taking c where r remain and `prev` is p, with b the least cost of the later positions; +infinity where c is not allowed
unfoldable pub step : Position → ℕ → ℕ → (ℕ → ℕ → Float) → ℤ → Float
step q r p b c = cond (allowed q r c) (add binary32 (q.price r p c) (b (r - nz c) (nz c))) (inf false)

-- the least cost of the positions where r remain and `prev` is p
unfoldable pub best : Tail → List Position → ℕ → ℕ → Float
best t [] r p = cond (eqb r t.count) (t.cost p) (inf false)
best t (q ∷ qs) r p = least (step q r p (best t qs)) (inf false) (trial q.candidates)

-- the level that has it, at the first position
unfoldable pub pick : Tail → Position → List Position → ℕ → ℕ → ℤ
pick t q qs r p = holder (step q r p (best t qs)) (inf false) (pos 0) (trial q.candidates)

-- the levels that have it
unfoldable pub walk : Tail → List Position → ℕ → ℕ → List ℤ
walk t [] r p = []
walk t (q ∷ qs) r p = let c = pick t q qs r p in c ∷ walk t qs (r - nz c) (nz c)

-- ---- The whole search, over the count
-- `first_prev` is the first position's `prev` by the whole count, `count_cost` what the count itself costs; the counts tried are `width` from `fewest` on.
pub record Problem : Type 0 where
  pub positions : List Position
  pub tail : Tail
  pub first_prev : ℕ → ℕ
  pub count_cost : ℕ → Float
  pub fewest : ℕ
  pub width : ℕ

-- a choice of the problem, in the band
pub record Banded (w : Problem) (cs : List ℤ) : Type 0 where
  pub choice : Choice w.positions cs
  pub band : T (in_band w.tail.count w.positions cs)

-- a choice's whole count, and its whole cost: with what the count costs
unfoldable pub count_of : Problem → List ℤ → ℕ
count_of w cs = remaining w.tail.count cs

unfoldable pub whole_cost : Problem → List ℤ → Float
whole_cost w cs = add binary32 (cost_of w.tail w.positions (w.first_prev (count_of w cs)) cs) (w.count_cost (count_of w cs))

-- the whole cost has an infinite term: a local cost, the tail, or what the count costs
unfoldable pub whole_infinite : Problem → List ℤ → Bool
whole_infinite w cs = has_infinite w.tail w.positions (w.first_prev (count_of w cs)) cs || not (finite (w.count_cost (count_of w cs)))

-- the least whole cost of count n
unfoldable pub total : Problem → ℕ → Float
total w n = add binary32 (best w.tail w.positions n (w.first_prev n)) (w.count_cost n)

-- n, n + 1, and so on, k of them
unfoldable pub up_from : ℕ → ℕ → List ℕ
up_from n zero = []
up_from n (suc k) = n ∷ up_from (suc n) k

-- the least whole cost, the count that has it (the smallest such), and the levels
unfoldable pub least_total : Problem → Float
least_total w = least (total w) (inf false) (up_from w.fewest w.width)

unfoldable pub least_count : Problem → ℕ
least_count w = holder (total w) (inf false) w.fewest (up_from w.fewest w.width)

unfoldable pub least_levels : Problem → List ℤ
least_levels w = walk w.tail w.positions (least_count w) (w.first_prev (least_count w))
