use Rattle.book_calls.proofs.NoWord.{priced-as}
use Rattle.book_calls.proofs.book.token_bits.Goals as goal

pub returns : goal.returns
returns c = priced-as _ _ _ _ (rw c.new.ensures at c.token_bits.ensures)
