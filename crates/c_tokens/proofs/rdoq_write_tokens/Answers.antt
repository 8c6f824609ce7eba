use Rattle.c_tokens.proofs.Telling.{write-told}
use Rattle.c_tokens.proofs.rdoq_write_tokens.Goals as goal

pub returns : goal.returns
returns c = write-told _ c.tell.ensures.value c.tell.ensures.out_after c.write_tokens-written.ensures
