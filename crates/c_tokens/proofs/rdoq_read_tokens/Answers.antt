use Rattle.c_tokens.proofs.Telling.{read_told}
use Rattle.c_tokens.proofs.rdoq_read_tokens.Goals as goal

pub returns : goal.returns
returns c = read_told _ c.tell.ensures.value c.tell.ensures.out_after c.read_tokens-read.ensures
