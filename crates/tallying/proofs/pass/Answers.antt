use Rattle.std.proofs.Common.{sym, ◌∙◌}
use Rattle.tallying.specs.Uses.{tokens_of}
use Rattle.tallying.proofs.Checks.{both-lists}
use Rattle.tallying.proofs.pass.Goals as goal

pub returns-then-none_above : goal.returns-then-none_above
returns-then-none_above c =
    c.none_above-then-none_above.ensures ∙ rw (sym c.none_above.ensures ∙ c.if-none_above.true) at (both-lists (tokens_of c.args.contexts.now c.args.values.now) c.requires)

pub returns-else-none_above : goal.returns-else-none_above
returns-else-none_above c =
    c.if-none_above.false ∙ rw (sym c.none_above.ensures ∙ c.if-none_above.false) at (both-lists (tokens_of c.args.contexts.now c.args.values.now) c.requires)
