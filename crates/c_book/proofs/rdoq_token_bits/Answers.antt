use Rattle.c_book.proofs.Words.{price-told}
use Rattle.c_book.proofs.rdoq_token_bits.Goals as goal

pub returns : goal.returns
returns c = price-told _ _ _ _ _ c.token_bits-answer.ensures (c.tell.ensures.value, c.tell.ensures.out_after)
