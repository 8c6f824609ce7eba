-- Checks in the order in which they are made.
use Rattle.std.specs.Prelude.{ℕ, Bool, cond, List, [], ◌∷◌}

-- Each check with the number that it refuses with: the number of the first that fails, else what comes after them.
unfoldable pub first_refused : List (Bool × ℕ) → ℕ → ℕ
first_refused [] later = later
first_refused (check ∷ checks) later = cond check.0 (first_refused checks later) check.1
