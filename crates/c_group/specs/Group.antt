-- What the exported call over a group returns, and what the caller's variable and every lent buffer hold afterwards. Assumes nothing.
use Rattle.std.specs.Prelude.{ℕ, ◌≤◌, ◌≡◌, cond, List, leb, Float}
use Rattle.block.specs.Outcome.{Lent}
use Rattle.searches.specs.Named.{search_named}
use Rattle.group_run.specs.Block.{Numbers, Room, lent_with}
use Rattle.group_run.specs.Demand as Demand
use Rattle.group_run.specs.Demand.{settled_in}
use Rattle.group_run.specs.Run.{Run, group_outcome}
use Rattle.group_run.specs.Group.{Group, Settled, Stopped}
use Rattle.prices.specs.Book.{Book}

-- the code, the number of settled blocks, and the buffers
pub record Reply : Type 0 where
  pub code : ℕ
  pub settled : ℕ
  pub lent : Lent

abbrev pub reply_of : ℕ → ℕ → Lent → Reply
reply_of code settled lent = record { code = code; settled = settled; lent = lent }

-- 0 for a list that was settled to its end, else the refusal
unfoldable pub code_of : Group → ℕ
code_of (Settled n) = 0
code_of (Stopped refusal n) = refusal

unfoldable pub told : Run → Reply
told r = reply_of (code_of r.answer) (settled_in r.answer) r.lent

-- a number that names no search gets 17, with 0 settled, and nothing changes
unfoldable pub group_reply : ℕ → Book → List ℕ → List Float → Numbers → Room → Reply
group_reply search book words reals g room = cond (leb search 3) (told (group_outcome (search_named search) book words reals g room)) (reply_of 17 0 (lent_with g.levels room))

-- What a call promises: `after` is its code, the number that it writes and what it leaves.
pub record Promised (search : ℕ) (book : Book) (words : List ℕ) (reals : List Float) (g : Numbers) (room : Room) (after : Reply) : Type 0 where
  -- the code, the number and every buffer; the number is written by every call
  pub reply : after ≡ group_reply search book words reals g room
  -- what that means: all that the call over a group promises in Rattle, of what is left
  pub means : search ≤ 3 → Demand.Promised (search_named search) book words reals g room (group_outcome (search_named search) book words reals g room).answer after.lent
