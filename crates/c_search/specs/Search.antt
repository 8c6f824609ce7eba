-- What the exported search returns, and what every lent variable and buffer holds afterwards. Assumes nothing.
use Rattle.std.specs.Prelude.{ℕ, ◌≤◌, ◌≡◌, Float}
use Rattle.block.specs.Block.{Block, covered}
use Rattle.block.specs.Outcome.{Lent, Result}
use Rattle.prices.specs.Book.{Book}
use Rattle.searches.specs.Named.{search_named}
use Rattle.searches.specs.Outcome.{Demanded, search_outcome}
use Rattle.searches.specs.declared.Search.{Search}
use Rattle.weights.specs.Window.{window_of}
use Rattle.c_named.specs.Named.{Reply, named_reply}

-- a search of document 01's window, w the half-width of its band
abbrev pub outcome_named : ℕ → Book → Block → Lent → Search → Result
outcome_named w book b l search = search_outcome w (window_of (covered b)) search book b l

-- What a call promises: `after` is its code, the caller's two variables and what it leaves.
pub record Promised (search w : ℕ) (book : Book) (b : Block) (before : Lent) (cost : Float) (count : ℕ) (after : Reply) : Type 0 where
  -- the code, the variables and every buffer
  pub reply : after ≡ named_reply (outcome_named w book b before) search before cost count
  -- what the answer told means of what is left: demand 3 of the trellis, and the like of the other searches
  pub demanded : search ≤ 3
      → Demanded w (window_of (covered b)) (search_named search) book b before (record { answer = (outcome_named w book b before (search_named search)).answer; lent = after.lent })
  -- a refused block keeps every level
  pub keeps : (after.code ≡ 0 → ⊥) → after.lent.levels ≡ before.levels
