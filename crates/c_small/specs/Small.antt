-- What the exported call of the small product returns, and what every lent variable and buffer holds afterwards. Assumes nothing.
use Rattle.std.specs.Prelude.{ℕ, ◌≤◌, ◌≡◌, true, cond, Float}
use Rattle.block.specs.Band.{half_width}
use Rattle.block.specs.Block.{Block}
use Rattle.block.specs.Outcome.{Lent}
use Rattle.prices.specs.Book.{Book}
use Rattle.searches.specs.Named.{search_named}
use Rattle.searches.specs.Outcome.{Demanded}
use Rattle.searches.specs.declared.Search.{Search}
use Rattle.small.specs.Small.{check32, small_window, small_outcome}
use Rattle.c_named.specs.Named.{Reply, reply_of, named_reply}

-- more than two covered blocks get 32 before the search's number is looked at, and nothing changes
unfoldable pub small_reply : ℕ → Book → Block → Lent → Float → ℕ → Reply
small_reply search book b l cost count = cond (check32 b) (named_reply (λ (s : Search). small_outcome s book b l) search l cost count) (reply_of 32 cost count l)

-- What a call promises: `after` is its code, the caller's two variables and what it leaves.
pub record Promised (search : ℕ) (book : Book) (b : Block) (before : Lent) (cost : Float) (count : ℕ) (after : Reply) : Type 0 where
  -- the code, the variables and every buffer
  pub reply : after ≡ small_reply search book b before cost count
  -- what the answer told means of what is left: of the trellis the least-cost rule
  pub demanded : check32 b ≡ true → search ≤ 3
      → Demanded half_width (small_window b) (search_named search) book b before (record { answer = (small_outcome (search_named search) book b before).answer; lent = after.lent })
  -- a refused block keeps every level
  pub keeps : (after.code ≡ 0 → ⊥) → after.lent.levels ≡ before.levels
