-- What the passes over a record promise.
use Rattle.std.specs.Prelude.{ℕ, ◌<◌, ◌≡◌, true, false, Option, Some, None, List, length, get_or}
use Rattle.store_record.specs.Runs.{run_at, runs_from, holds, run_under, others, headed}

-- where the run under number k stands among the first n, if there is one
pub record Found (k : ℕ) (r : List ℕ) (n : ℕ) (found : Option ℕ) : Type 0 where
  pub there : (i : ℕ) → found ≡ Some i → (i < n) × (holds k (runs_from r 0 n) ≡ true) × (run_under k (runs_from r 0 n) ≡ run_at r i)
  pub missing : found ≡ None → holds k (runs_from r 0 n) ≡ false

-- of n runs those under other numbers are left, in front of the record
pub record Removed (k : ℕ) (r : List ℕ) (n : ℕ) (after : List ℕ) (left : ℕ) : Type 0 where
  pub count : left ≡ length (others k (runs_from r 0 n))
  pub runs : after ≡ headed (get_or r 0 0) (others k (runs_from r 0 n)) r
