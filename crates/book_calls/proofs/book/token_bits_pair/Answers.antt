use Rattle.book_calls.proofs.NoWord.{pair-priced-as}
use Rattle.book_calls.proofs.book.token_bits_pair.Goals as goal

pub returns : goal.returns
returns c = pair-priced-as _ _ _ _ (rw c.new.ensures at c.token_bits_pair.ensures)
