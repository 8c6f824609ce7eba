-- What the loop over a list, once that passed its checks, answers and leaves.
use Rattle.std.specs.Prelude.{ℕ, ◌≡◌, List, [], Float}
use Rattle.block.specs.Outcome.{Lent}
use Rattle.group_list.specs.Heads.{heads_of}
use Rattle.group_run.specs.Block.{Numbers, Room}
use Rattle.group_run.specs.Run.{run}
use Rattle.group_run.specs.Group.{Group}
use Rattle.prices.specs.Book.{Book}
use Rattle.searches.specs.declared.Search.{Search}

pub record Ran (s : Search) (book : Book) (words : List ℕ) (reals : List Float) (g : Numbers) (room : Room) (answer : Group) (after : Lent) : Type 0 where
  pub answer_is : (run s book [] (heads_of words reals) g room).answer ≡ answer
  pub lent_is : (run s book [] (heads_of words reals) g room).lent ≡ after
