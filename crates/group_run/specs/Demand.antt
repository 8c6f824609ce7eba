-- What the answer of a list means: each settled block meets its search's rule with its derived prediction, and the channels do not touch each other.
use Rattle.std.specs.Prelude.{ℕ, ◌≤◌, ◌≡◌, cond, true, List, [], ◌∷◌, ◌++◌, eqb, ℤ, length, take, drop, Float}
use Rattle.block.specs.Outcome.{Lent, Result}
use Rattle.group_cells.specs.Cells.{Counted, per_block}
use Rattle.group_list.specs.Channel.{of_channel}
use Rattle.group_list.specs.Checks.{whole_blocks}
use Rattle.group_list.specs.Heads.{Head, covered, heads_of}
use Rattle.prices.specs.Book.{Book}
use Rattle.searches.specs.Outcome.{Demanded}
use Rattle.searches.specs.declared.Search.{Search}
use Rattle.weights.specs.Window.{window_of}
use Rattle.group_run.specs.Block.{Numbers, Room, room_of, lent_with, rest, block_at, searched, numbers_of, settles}
use Rattle.group_run.specs.Run.{Done, Run, counted, group_outcome}
use Rattle.group_run.specs.Group.{Group, Settled, Stopped}

-- ---- each settled block
-- what the search of a settled block answered and left, the room with it
abbrev pub found_of : Done → Room → Result
found_of d room = record { answer = d.answer; lent = lent_with d.levels room }

-- `room` is the room as the block before left it.
pub record Ruled (s : Search) (book : Book) (done : List Counted) (h : Head) (g : Numbers) (room : Room) (d : Done) : Type 0 where
  -- a settled block is the list's, with the count predicted from the blocks settled before it (`block_at`)
  pub head_is : d.head ≡ h
  pub block_is : d.block ≡ block_at done h g
  -- its search answered ..
  pub settled : settles d.answer ≡ true
  -- .. and the answer means what it means of a block by itself: of the trellis, by either walk, the least-cost rule
  pub demanded : Demanded h.half_width (window_of (covered h)) s book d.block (lent_with d.block.levels room) (found_of d (room_of (searched s book done h g room).lent))

-- the settled blocks are the first of the list, in order
abbrev pub EachRuled : Search → Book → List Counted → List Head → Numbers → Room → List Done → Type 0
EachRuled s book done hs g room [] = Unit {0}
EachRuled s book done [] g room (d ∷ ds) = ⊥
EachRuled s book done (h ∷ hs) g room (d ∷ ds) =
    Ruled s book done h g room d × EachRuled s book (counted d ∷ done) hs (rest h g) (room_of (searched s book done h g room).lent) ds

-- what is predicted and what goes into cells fits a byte
abbrev pub EachSmall : List Done → Type 0
EachSmall [] = Unit {0}
EachSmall (d ∷ ds) = (d.block.shape.predicted ≤ 63) × (per_block (counted d) ≤ 63) × EachSmall ds

-- ---- what is left
-- the levels of the settled blocks, one after the other
unfoldable pub laid : List Done → List ℤ
laid [] = []
laid (d ∷ ds) = d.levels ++ laid ds

-- how many blocks an answer says are settled
unfoldable pub settled_in : Group → ℕ
settled_in (Settled n) = n
settled_in (Stopped refusal n) = n

pub record Left (g : Numbers) (r : Run) : Type 0 where
  -- levels: the settled blocks' at their places, all others as they were, those of the block that stopped the list among them
  pub levels_are : r.lent.levels ≡ laid r.settled ++ drop (length (laid r.settled)) g.levels
  -- the answered number is that of the settled blocks
  pub number_is : settled_in r.answer ≡ length r.settled

-- ---- channels
pub record SameLengths (r r' : Room) : Type 0 where
  pub choices : length r.choices ≡ length r'.choices
  pub first : length r.row_a ≡ length r'.row_a
  pub second : length r.row_b ≡ length r'.row_b

unfoldable pub done_of : ℕ → List Done → List Done
done_of channel [] = []
done_of channel (d ∷ ds) = cond (eqb channel d.head.channel) (d ∷ done_of channel ds) (done_of channel ds)

abbrev pub Prefix : List Done → List Done → Type 0
Prefix xs ys = (zs : List Done) × (ys ≡ xs ++ zs)

-- The settled blocks of a channel are the first of those that a list of that channel's blocks alone settles, with their numbers: same block, prediction included, same answer, same levels.
abbrev pub Alone : Search → Book → List ℕ → List Float → Numbers → Room → Type 0
Alone s book words reals g room =
    (channel : ℕ) (words' : List ℕ) (reals' : List Float) (room' : Room) → whole_blocks words' reals' ≡ true → heads_of words' reals' ≡ of_channel channel (heads_of words reals) → SameLengths room room'
    → Prefix (done_of channel (group_outcome s book words reals g room).settled) (group_outcome s book words' reals' (numbers_of channel (heads_of words reals) g) room').settled

-- Two lists that have the same blocks of a channel, with the same numbers: whatever blocks of other channels stand between them, those that both settle are settled alike.
abbrev pub Unaltered : Search → Book → List ℕ → List Float → Numbers → Room → Type 0
Unaltered s book words reals g room =
    (channel : ℕ) (words' : List ℕ) (reals' : List Float) (g' : Numbers) (room' : Room) → of_channel channel (heads_of words' reals') ≡ of_channel channel (heads_of words reals)
    → numbers_of channel (heads_of words' reals') g' ≡ numbers_of channel (heads_of words reals) g → SameLengths room room' → (n : ℕ)
    → n ≤ length (done_of channel (group_outcome s book words reals g room).settled) → n ≤ length (done_of channel (group_outcome s book words' reals' g' room').settled)
    → take n (done_of channel (group_outcome s book words reals g room).settled) ≡ take n (done_of channel (group_outcome s book words' reals' g' room').settled)

-- ---- What a call over a list promises: `answer` and `after` are what it answers and what it leaves.
pub record Promised (s : Search) (book : Book) (words : List ℕ) (reals : List Float) (g : Numbers) (room : Room) (answer : Group) (after : Lent) : Type 0 where
  -- the answer and every buffer are those of the list, block after block
  pub answer_is : answer ≡ (group_outcome s book words reals g room).answer
  pub lent_is : after ≡ (group_outcome s book words reals g room).lent
  -- each settled block meets its search's rule with its derived prediction
  pub ruled : EachRuled s book [] (heads_of words reals) g room (group_outcome s book words reals g room).settled
  -- their levels stand at their places and all others are as they were; the answered number is theirs
  pub left : Left g (group_outcome s book words reals g room)
  -- blocks of another channel, put in or taken out with their numbers, do not alter a channel's settled blocks
  pub alone : Alone s book words reals g room
  pub unaltered : Unaltered s book words reals g room
