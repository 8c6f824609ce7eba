-- What making room for tokens promises.
use Rattle.std.specs.Prelude.{ℕ, ◌+◌, ◌≡◌, true, false, List, leb, length}
use Rattle.store_record.specs.Runs.{runs_from, end_of}
use Rattle.store_room.specs.Compacted.{Compacted}

-- place for n tokens at `at`: behind the last run, with nothing moved, or behind all, moved together
pub record Made (room r : List ℕ) (count n : ℕ) (room' r' : List ℕ) (at : ℕ) : Type 0 where
  pub behind : leb (end_of 0 (runs_from r 0 count) + n) (length room) ≡ true → (at ≡ end_of 0 (runs_from r 0 count)) × ((room' ≡ room) × (r' ≡ r))
  pub moved : leb (end_of 0 (runs_from r 0 count) + n) (length room) ≡ false → Compacted room r count room' r' at
