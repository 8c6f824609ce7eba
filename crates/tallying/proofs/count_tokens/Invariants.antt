use Rattle.tallying.specs.Checked.{tokens_in}
use Rattle.tallying.proofs.Changes.{Under}
use Rattle.tallying.proofs.count_tokens.Given as given

abbrev pub invariant-loop-i : given.invariant-loop-i
invariant-loop-i l = Under l.code.map.now l.code.configs.now (tokens_in l.tokens) l.initial.counts l.initial.extra l.change l.counts l.extra l.i
