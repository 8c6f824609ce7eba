-- What an answer told says of the list's outcome. Assumes nothing.
use mathlib.Core.Path.{◌≡◌, ap₂, subst}
use mathlib.Core.List.{List}
use Prim.Native.Nat.{ℕ, ◌≤◌}
use lib.Dec.{leb}
use mathlib.Core.Bool.{true, false}
use lib.Ieee.{Float}
use Rattle.block.specs.Outcome.{Lent}
use Rattle.searches.specs.Named.{search_named}
use Rattle.group_run.specs.Block.{Numbers, Room, lent_with}
use Rattle.group_run.specs.Demand as Demand
use Rattle.group_run.specs.Demand.{settled_in}
use Rattle.group_run.specs.Group.{Group}
use Rattle.prices.specs.Book.{Book}
use Rattle.c_group.specs.Group.{Promised, reply_of, code_of, told, group_reply}

module _ (search : ℕ) (book : Book) (words : List ℕ) (reals : List Float) (g : Numbers) (room : Room) where
  pub unknown : leb search 3 ≡ false → (search ≤ 3 → ⊥) → Promised search book words reals g room (reply_of 17 0 (lent_with g.levels room))
  unfolding group_reply
  unknown none k = record { reply = rw none; means = λ few. absurd (k few) }

  pub told-group : leb search 3 ≡ true → {answer : Group} {after left : Lent} → Demand.Promised (search_named search) book words reals g room answer after → {code settled : ℕ} → code ≡ code_of answer → settled ≡ settled_in answer
      → left ≡ after → Promised search book words reals g room (reply_of code settled left)
  unfolding group_reply told
  told-group few {answer} {after} P e f back =
      record {
        reply = rw (few, e, f, back) (ap₂ (λ (x : Group) (l : Lent). reply_of (code_of x) (settled_in x) l) P.answer_is P.lent_is);
        means = λ k. rw back (subst (λ (x : Group). Demand.Promised (search_named search) book words reals g room x after) P.answer_is P);
      }
