use Rattle.std.proofs.Common.{◌∙◌}
use Rattle.token_steps.proofs.Walk.{context-by}
use Rattle.token_steps.proofs.context_at.Goals as goal

pub returns : goal.returns
returns c =
    let context = c.context_in.ensures in
    (context.0 ∙ context-by c.numbers.result (rw c.numbers.ensures c.args.layout.laid) c.args.left c.args.k c.args.prev, context.1)
