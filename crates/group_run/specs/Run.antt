-- What a list answers, and what every lent buffer holds afterwards: a recursion over its blocks, each searched with the count predicted from those settled before it.
use Rattle.std.specs.Prelude.{ℕ, cond, List, [], ◌∷◌, ◌++◌, eqb, ℤ, length, drop, Float}
use Rattle.block.specs.Block.{Block}
use Rattle.block.specs.Outcome.{Lent, Result}
use Rattle.block.specs.Answer.{Answer}
use Rattle.group_cells.specs.Cells.{Counted}
use Rattle.group_list.specs.Checks.{list_refusal}
use Rattle.group_list.specs.Heads.{Head, heads_of}
use Rattle.prices.specs.Book.{Book}
use Rattle.prices.specs.Checks.{book_refusal}
use Rattle.searches.specs.declared.Search.{Search}
use Rattle.group_run.specs.Block.{Numbers, Room, room_of, lent_with, size, enough, rest, block_at, searched, settles, count_in, refusal_in}
use Rattle.group_run.specs.Group.{Group, Settled, Stopped}

-- a settled block: what the search was given, what it answered and the levels that it left
pub record Done : Type 0 where
  pub head : Head
  pub block : Block
  pub answer : Answer
  pub levels : List ℤ

abbrev pub done_with : Head → Block → Result → Done
done_with h b r = record { head = h; block = b; answer = r.answer; levels = r.lent.levels }

-- what it writes into its cells
abbrev pub counted : Done → Counted
counted d = record { head = d.head; count = count_in d.answer }

-- what a list answers, what it leaves, and the blocks that it settled, in order
pub record Run : Type 0 where
  pub answer : Group
  pub lent : Lent
  pub settled : List Done

abbrev pub ended : Group → List ℤ → Room → Run
ended answer levels room = record { answer = answer; lent = lent_with levels room; settled = [] }

-- a block's levels and what follows
abbrev pub followed : Done → Run → Run
followed d r =
    record { answer = r.answer; lent = lent_with (d.levels ++ r.lent.levels) (room_of r.lent); settled = d ∷ r.settled }

-- `done`: the blocks settled so far, the last of them first.
unfoldable pub run : Search → Book → List Counted → List Head → Numbers → Room → Run
run s book done [] g room = ended (Settled (length done)) g.levels room
run s book done (h ∷ hs) g room =
    let found = searched s book done h g room in
    let d = done_with h (block_at done h g) found in
    cond (enough h g)
    (cond (settles found.answer)
    (followed d (run s book (counted d ∷ done) hs (rest h g) (room_of found.lent)))
    (ended (Stopped (refusal_in found.answer) (length done)) (found.lent.levels ++ drop (size h) g.levels) (room_of found.lent)))
    (ended (Stopped 8 (length done)) g.levels room)

-- what is refused before any search: 1 to 6 of the book, then the list's own
unfoldable pub group_refusal : Book → List ℕ → List Float → ℕ
group_refusal book words reals = cond (eqb (book_refusal book) 0) (list_refusal words reals) (book_refusal book)

-- refused so, nothing is settled and nothing changes
unfoldable pub group_outcome : Search → Book → List ℕ → List Float → Numbers → Room → Run
group_outcome s book words reals g room =
    cond (eqb (group_refusal book words reals) 0) (run s book [] (heads_of words reals) g room) (ended (Stopped (group_refusal book words reals) 0) g.levels room)
