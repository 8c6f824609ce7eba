-- The working room as it is lent to a search.
use Rattle.std.specs.Prelude.{◌≡◌, List, ℤ, length}
use Rattle.block.specs.Answer.{Answer}
use Rattle.block.specs.Outcome.{Lent, Result, lent_of}
use Rattle.block_checks.specs.declared.RoomLengths.{RoomLengths}
use Rattle.rooms.specs.declared.Room.{Room}

-- the same three buffers, whatever they hold
pub record SameBuffers (before after : Room) : Type 0 where
  pub choices : after.choices.ghost_name ≡ before.choices.ghost_name
  pub row_a : after.row_a.ghost_name ≡ before.row_a.ghost_name
  pub row_b : after.row_b.ghost_name ≡ before.row_b.ghost_name

-- levels, and what the room holds
abbrev pub lent_in : List ℤ → Room → Lent
lent_in levels room = lent_of levels room.choices.now room.row_a.now room.row_b.now

-- an answer, and what it leaves
abbrev pub result_in : Answer → List ℤ → Room → Result
result_in answer levels room = record { answer = answer; lent = lent_in levels room }

abbrev pub lengths_in : Room → RoomLengths
lengths_in room = record { choices = length room.choices.now; row_a = length room.row_a.now; row_b = length room.row_b.now }
