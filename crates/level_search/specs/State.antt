-- What the program knows of where it stands. Assumes nothing.
use Rattle.std.specs.Prelude.{◌≤◌}
use Rattle.block_lists.specs.Lengths.{BookHeld}
use Rattle.level_search.specs.declared.State.{State}

-- no length is more than is held
pub record Sound (s : State) : Type 0 where
  pub book : BookHeld s.book
  pub used : s.line.used ≤ 65536
