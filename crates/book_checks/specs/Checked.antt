-- What the check of a book answers: the book, or the refusal.
use Rattle.std.specs.Prelude.{◌≡◌, Result, MatchResult}
use Rattle.prices.specs.Book.{Book}
use Rattle.prices.specs.Checks.{book_refusal}
use Rattle.prices.specs.Contents.{contents}
use Rattle.prices.specs.declared.book.PriceBook.{PriceBook}
use Rattle.refusals.specs.Numbers.{number_of}
use Rattle.refusals.specs.declared.Refusal.{Refusal}

abbrev pub IsChecked : Book → Result PriceBook Refusal → Type 0
IsChecked b answer = MatchResult answer (λ book. contents book ≡ b) (λ refusal. number_of refusal ≡ book_refusal b)
