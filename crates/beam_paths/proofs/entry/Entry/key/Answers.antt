use Rattle.beam_paths.proofs.Keeping.{key-second, key-first}
use Rattle.beam_paths.proofs.entry.Entry.key.Goals as goal

pub returns-then-second-first : goal.returns-then-second-first
returns-then-second-first c = λ q xs y Y. key-second Y c.if-second-first.true

pub returns : goal.returns
returns c = λ q xs y Y. key-first Y c.if-second-first.false
