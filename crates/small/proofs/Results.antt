-- Each way that the call ends meets its contract. Assumes nothing.
use mathlib.Core.Path.{◌≡◌, sym, ◌∙◌}
use mathlib.Core.Bool.{true, false, true≢false}
use Rattle.block.specs.Band.{half_width}
use Rattle.block.specs.Block.{Block}
use Rattle.block.specs.Outcome.{Lent, Result, refused}
use Rattle.prices.specs.Book.{Book}
use Rattle.searches.specs.Outcome.{PromisedIn}
use Rattle.searches.specs.declared.Search.{Search}
use Rattle.small.specs.Small.{check32, small_window, small_outcome, Promised}

module _ (search : Search) (book : Book) (b : Block) (l : Lent) where
  pub not-small : check32 b ≡ false → l.levels ≡ b.levels → Promised search book b l (refused 32 l)
  unfolding small_outcome
  not-small e own = record { outcome = rw e; demanded = λ few. absurd (true≢false (sym few ∙ e)); keeps = λ number told. own }

  -- what the searches promise at this half-width and window
  pub searched : check32 b ≡ true → {after : Result} → PromisedIn half_width (small_window b) search book b l after → Promised search book b l after
  unfolding small_outcome
  searched e P = record { outcome = rw e P.outcome; demanded = λ few. P.demanded; keeps = P.keeps }
