use Rattle.half_bytes.proofs.Laws.{unpacked-set}
use Rattle.half_bytes.proofs.put_pair.Goals as goal

pub returns : goal.returns
returns c = unpacked-set _ _ _ _
