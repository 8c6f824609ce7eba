use Rattle.std.proofs.Common.{◌≡◌, length, sym, ◌∙◌, arith}
use Rattle.steps.proofs.Listed.{pickable-back}
use Rattle.trellis_choice.proofs.Tying.{untied-more, tied-here, untied-all}
use Rattle.trellis_choice.proofs.chosen.first_tied.Goals as goal

pub returns-then-ties : goal.returns-then-ties
returns-then-ties c =
    λ g each.
    let here = c.loop-j-test.true in
    tied-here g _ _ _ _ _ c.loop-j.j here (each.at _ here) (c.loop-j.invariant g each)
    (rw (← (pickable-back c.args.candidates.now.pickable _ here)) (sym c.ties.ensures ∙ c.if-ties.true))

pub loop-j-preserved : goal.loop-j-preserved
loop-j-preserved c =
    λ g each.
    let here = c.loop-j-test.true in
    untied-more g _ _ _ _ _ c.loop-j.j here (each.at _ here) (c.loop-j.invariant g each)
    (rw (← (pickable-back c.args.candidates.now.pickable _ here)) (sym c.ties.ensures ∙ c.if-ties.false))

pub returns : goal.returns
returns c =
    λ g each.
    let last : c.loop-j.j ≡ length c.args.candidates.now.levels.now = omega arith in
    untied-all (rw last at (c.loop-j.invariant g each))
