use Rattle.block_file.proofs.fields.float_at.Goals as goal

pub returns : goal.returns
returns c = rw c.word_at.ensures at c.float_of.ensures
