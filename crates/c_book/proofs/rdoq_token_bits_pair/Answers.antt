use Rattle.c_book.proofs.Words.{pair-told}
use Rattle.c_book.proofs.rdoq_token_bits_pair.Goals as goal

pub returns : goal.returns
returns c = pair-told _ _ _ _ _ _ c.token_bits_pair-answer.ensures (c.tell_pair.ensures.value, (c.tell_pair.ensures.first_after, c.tell_pair.ensures.second_after))
