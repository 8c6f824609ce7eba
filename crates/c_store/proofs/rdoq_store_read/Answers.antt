use Rattle.std.proofs.Common.{◌∙◌}
use Rattle.c_store.proofs.Told.{read_told, code-told, length-told}
use Rattle.c_store.proofs.rdoq_store_read.Goals as goal

pub returns : goal.returns
returns c = read_told _ _ _ _ c.read-answer.ensures (c.tell.ensures.value ∙ code-told _) (c.tell.ensures.out_after ∙ length-told _ _)
