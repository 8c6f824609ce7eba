-- What filling leaves of a book's ready prices.
use Rattle.std.specs.Prelude.{ℕ, ◌*◌, ◌/◌, ◌%◌, List, cond, eqb, Float}
use Rattle.prices.specs.Book.{Book, cluster_price}
use Rattle.prices.specs.Checks.{fill_refusal}
use Rattle.book_build.specs.Paint.{paint}

-- Entry i is the price of value i % 256 in cluster i / 256.
unfoldable pub ready_entry : List ℕ → List Float → ℕ → Float
ready_entry configs symbols i = cluster_price configs symbols (i / 256) (i % 256)

-- Every entry where checks 1 to 5 pass, else what was there.
unfoldable pub filled_ready : Book → List Float
filled_ready b = cond (eqb (fill_refusal b) 0) (paint (ready_entry b.configs b.symbols) 0 (256 * b.clusters) b.ready) b.ready

-- the book with its ready prices filled
unfoldable pub filled : Book → Book
filled b = record { clusters = b.clusters; map = b.map; configs = b.configs; symbols = b.symbols; ready = filled_ready b }
