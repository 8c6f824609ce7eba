-- What a list that passed its checks says of each block. Assumes nothing.
use mathlib.Core.Path.{◌≡◌}
use mathlib.Core.List.{List}
use Prim.Native.Nat.{ℕ, ◌+◌, ◌*◌, ◌≤◌, ◌<◌}
use lib.ListN.{length}
use lib.Ieee.{Float}
use Rattle.group_list.specs.Checks.{list_refusal}
use Rattle.group_list.specs.Heads.{heads_of, blocks_in, PlacedAt}
use Rattle.group_list.proofs.Channel.{heads-pass, list-passes}
use Rattle.group_list.proofs.Order.{placed_at, floats-within}

module _ (words : List ℕ) (reals : List Float) (none : list_refusal words reals ≡ 0) where
  pub here_placed : (i : ℕ) → i < blocks_in words → PlacedAt words i
  here_placed i h = placed_at words reals (heads-pass (heads_of words reals) (list-passes words reals none).1) i h

  pub here_floats : (i : ℕ) → i < blocks_in words → 7 * i + 7 ≤ length reals
  here_floats i h = floats-within words reals (list-passes words reals none).0 i h
