-- What the checks of a search answer: the book, which passed with the block; or the refusal.
use Rattle.std.specs.Prelude.{ℕ, Bool, ◌≡◌, Result, MatchResult}
use Rattle.block.specs.Block.{Block}
use Rattle.block.specs.Checks.{search_refusal}
use Rattle.prices.specs.Book.{Book}
use Rattle.prices.specs.Contents.{contents}
use Rattle.prices.specs.declared.book.PriceBook.{PriceBook}
use Rattle.refusals.specs.Numbers.{number_of}
use Rattle.refusals.specs.declared.Refusal.{Refusal}
use Rattle.weights.specs.declared.Window.{Window}

abbrev pub IsPassed : ℕ → Window → Book → Block → Bool → Result PriceBook Refusal → Type 0
IsPassed w v book b room answer =
    MatchResult answer
    (λ checked. (contents checked ≡ book) × (search_refusal w v book b room ≡ 0))
    (λ refusal. number_of refusal ≡ search_refusal w v book b room)
