-- A choice's exact cost: its terms, each as it was rounded, added up with no rounding, as whole multiples of 2 ^ -149. Assumes nothing.
use Rattle.std.specs.Prelude.{ℕ, ◌+◌, List, [], ◌∷◌, ℤ}
use Rattle.std.specs.Float.{binary32}
use Rattle.exact.specs.Units.{in_units}
use Rattle.least_cost.specs.Position.{Position, Tail, nz}
use Rattle.least_cost.specs.Choice.{remaining}
use Rattle.least_cost.specs.Search.{Problem, count_of}

-- the tail for the last `prev`, and each local cost
unfoldable pub exact_of : Tail → List Position → ℕ → List ℤ → ℕ
exact_of t [] p cs = in_units binary32 (t.cost p)
exact_of t (q ∷ qs) p [] = 0
exact_of t (q ∷ qs) p (c ∷ cs) = in_units binary32 (q.price (remaining t.count (c ∷ cs)) p c) + exact_of t qs (nz c) cs

-- with what the count costs
unfoldable pub whole_exact : Problem → List ℤ → ℕ
whole_exact w cs = exact_of w.tail w.positions (w.first_prev (count_of w cs)) cs + in_units binary32 (w.count_cost (count_of w cs))
