-- A price view (document 01, "a price view that refers to the caller's context map and prices"), and the price book that it refers to.
use Rattle.std.specs.Prelude.{ℕ, List, Float}
use Rattle.std.specs.Borrow.{Bor}
use Rattle.prices.specs.Book.{Book, book_of}
use Rattle.price_view.specs.declared.PriceView.{PriceView}

-- of a number of clusters, a context map, configurations, symbol prices and ready prices
abbrev pub view_of : ℕ → Bor (List ℕ) → Bor (List ℕ) → Bor (List Float) → Bor (List Float) → PriceView
view_of clusters map configs symbols ready = record { clusters = clusters; map = map; configs = configs; symbols = symbols; ready = ready }

-- the book, as it stands behind the references
abbrev pub book_in : PriceView → Book
book_in v = book_of v.clusters v.map.now v.configs.now v.symbols.now v.ready.now
