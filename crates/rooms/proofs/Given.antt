-- A room given back. Assumes nothing.
use mathlib.Core.Path.{◌≡◌, refl}
use mathlib.Core.List.{List}
use Prim.Native.Nat.{ℕ}
use lib.IntN.{ℤ}
use lib.Ieee.{Float}
use Rattle.block.specs.Outcome.{lent_of}
use Rattle.rooms.specs.Lending.{lent_in}
use Rattle.rooms.specs.declared.Room.{Room}

-- three buffers that a room was made of hold what it holds
pub given_back : (levels : List ℤ) (room : Room) {choices : List ℕ} {row_a row_b : List Float} → choices ≡ room.choices.now → row_a ≡ room.row_a.now → row_b ≡ room.row_b.now
    → lent_of levels choices row_a row_b ≡ lent_in levels room
given_back levels room e f g = rw (e, f, g) refl
