use Rattle.beam_row.proofs.Taking.{taken-sole, taken-several}
use Rattle.beam_row.proofs.take_step.Goals as goal

pub returns-then-candidates-eq1 : goal.returns-then-candidates-eq1
returns-then-candidates-eq1 c = taken-sole c.requires c.step.ensures c.if-candidates-eq1.true c.extend-kept.ensures

pub returns : goal.returns
returns c = taken-several c.requires c.step-2.ensures c.if-candidates-eq1.false c.merge-kept.ensures
