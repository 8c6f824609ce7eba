-- The book that a checked price book holds.
use Rattle.prices.specs.Book.{Book, book_in}
use Rattle.prices.specs.declared.book.PriceBook.{PriceBook}

abbrev pub contents : PriceBook → Book
contents b = book_in b.map.now b.configs.now b.symbols.now b.ready.now
