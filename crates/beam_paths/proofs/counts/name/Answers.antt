use Rattle.std.proofs.Common.{◌<◌, length, sym, ◌∙◌, arith}
use Rattle.beam_paths.proofs.Naming.{has-any, named-old, named_new}
use Rattle.beam_paths.proofs.counts.name.Goals as goal

pub returns-then-contains-clause-counts_after : goal.returns-then-contains-clause-counts_after
returns-then-contains-clause-counts_after c = named-old _ _ (sym (has-any _ _) ∙ sym c.contains.ensures.value ∙ c.if-contains.true)

pub returns-clause-counts_after : goal.returns-clause-counts_after
returns-clause-counts_after c =
    let room : c.args.many < length c.args.counts.now = omega (arith, c.requires.0, c.requires.1) in
    named_new _ _ _ room (sym (has-any _ _) ∙ sym c.contains.ensures.value ∙ c.if-contains.false)
