-- A tally changed either way: tokens are added to it, or taken out.
use Rattle.std.specs.Prelude.{ℕ, ◌+◌, ◌-◌, ◌≤◌, ◌<◌, List, Result, Ok, Err}
use Rattle.coding.specs.Coding.{Coding}
use Rattle.tallying.specs.declared.Change.{Change}
use Rattle.tallying.specs.declared.Change.TheVariants.{Add, Remove}
use Rattle.tallying.specs.Uses.{Tokens}
use Rattle.tallying.specs.Tally.{Tally, Outcome, added, removed}
use Rattle.tallying.specs.Counting.{to_add, rest_to_add, to_remove, SomeAdded, SomeRemoved}

abbrev pub opposite : Change → Change
opposite Add = Remove
opposite Remove = Add

-- what a token does to its count and to the total
abbrev pub op_of : Change → ℕ → ℕ → ℕ
op_of Add x d = x + d
op_of Remove x d = x - d

-- it stays below the end of its type, or it has as many
abbrev pub Goes : Change → ℕ → ℕ → ℕ → Type 0
Goes Add end x d = x + d < end
Goes Remove end x d = d ≤ x

-- what a tally has room for, or has: tokens at each place, and extra bits
abbrev pub room_of : Change → Tally → ℕ → ℕ
room_of Add = to_add
room_of Remove = to_remove

abbrev pub rest_of : Change → Tally → ℕ
rest_of Add = rest_to_add
rest_of Remove = λ y. y.extra

-- of n tokens, all were counted, or those before one that has no room
abbrev pub counted_of : Result Unit ℕ → ℕ → ℕ
counted_of (Ok _) n = n
counted_of (Err done) n = done

abbrev pub SomeCounted : Change → List ℕ → List ℕ → Tokens → ℕ → Tally → ℕ → Tally → Type 0
SomeCounted Add = SomeAdded
SomeCounted Remove = SomeRemoved

-- what a call that changes a tally answers and leaves
abbrev pub outcome : Change → Coding → Tokens → Tally → Outcome
outcome Add = added
outcome Remove = removed
