-- What moving runs together promises.
use Rattle.std.specs.Prelude.{ℕ, ◌≡◌, List, get_or}
use Rattle.store_record.specs.Placed.{placed}
use Rattle.store_record.specs.Runs.{runs_from, live, packed, headed}
use Rattle.store_record.specs.Tokens.{joined}

-- The tokens of the first n runs stand one after the other at the front of the room, what lies past them is as it was, and the record says where each run is.
pub record Compacted (room r : List ℕ) (n : ℕ) (room' r' : List ℕ) (top : ℕ) : Type 0 where
  pub end : top ≡ live (runs_from r 0 n)
  pub tokens : room' ≡ placed 0 (joined room (runs_from r 0 n)) room
  pub runs : r' ≡ headed (get_or r 0 0) (packed 0 (runs_from r 0 n)) r
