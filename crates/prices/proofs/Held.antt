-- What the checks say of a checked price book.
use Rattle.std.proofs.Common.{ℕ, ◌<◌, ◌≡◌, get_or, subst}
use Rattle.prices.specs.Book.{Book}
use Rattle.prices.specs.Checks.{ClusterPassed, book_refusal}
use Rattle.prices.specs.Contents.{contents}
use Rattle.prices.specs.declared.book.PriceBook.{PriceBook}
use Rattle.prices.proofs.Passed.{Passed, passed, priced-in}

pub known : (book : PriceBook) → Passed (contents book)
known book = passed _ book.passed

-- the cluster of a context
pub mapped : (book : PriceBook) (context : ℕ) → context < 14850 → get_or book.map.now context 0 < (contents book).clusters
mapped book = (known book).sound.mapped

pub cluster-passed : (book : PriceBook) {k : ℕ} → k < (contents book).clusters → ClusterPassed book.configs.now book.symbols.now book.ready.now k
cluster-passed book = priced-in (known book)

-- a book that is a checked one's passes
pub passed-view : (book : PriceBook) {b : Book} → contents book ≡ b → book_refusal b ≡ 0
passed-view book e = subst (λ (b : Book). book_refusal b ≡ 0) e book.passed
