-- A block of a list, and what is lent for all of it.
use Rattle.std.specs.Prelude.{ℕ, ◌+◌, ◌*◌, ◌<◌, ◌≤◌, List, ℤ, length}
use Rattle.group_block.specs.declared.lists.Lists.{Lists}
use Rattle.group_block.specs.declared.lists.Part.{Part}
use Rattle.group_list.specs.Heads.{Head, head_at, blocks_in, PlacedAt}
use Rattle.group_run.specs.Block.{Numbers, Room}
use Rattle.rooms.specs.declared.Room as Rooms

-- block i
abbrev pub head_in : Lists → ℕ → Head
head_in lists i = head_at lists.words.now lists.reals.now i

-- block i is one of the list, placed within its group, and has its floats
abbrev pub IsListed : ℕ → Lists → Type 0
IsListed i lists = (i < blocks_in lists.words.now) × (PlacedAt lists.words.now i × (7 * i + 7 ≤ length lists.reals.now))

-- what is lent block after block
abbrev pub numbers_in : Lists → List ℤ → Numbers
numbers_in lists levels = record { scans = lists.scans.now; sources = lists.sources.now; inverses = lists.inv_qms.now; levels = levels }

-- the working room's lists
abbrev pub room_in : Rooms.Room → Room
room_in room = record { choices = room.choices.now; row_a = room.row_a.now; row_b = room.row_b.now }

-- the part's numbers lie within each list
abbrev pub IsLent : Part → Lists → List ℤ → Type 0
IsLent part lists levels =
    let end = part.at + part.n in
    (end ≤ length lists.scans.now) × ((end ≤ length lists.sources.now) × ((end ≤ length lists.inv_qms.now) × (end ≤ length levels)))
