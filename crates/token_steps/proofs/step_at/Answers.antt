use Rattle.token_steps.proofs.Walk.{token-by}
use Rattle.token_steps.proofs.step_at.Goals as goal

pub returns : goal.returns
returns c =
    let d = c.args.coded.now in
    let token = token-by c.numbers.result (rw c.numbers.ensures d.layout.laid) d.scan.now d.levels.now c.args.k c.args.left c.args.prev in
    rw token at c.token_at.ensures
