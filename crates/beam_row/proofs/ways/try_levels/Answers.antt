use Rattle.std.proofs.Common.{◌≡◌, refl, sym, ap, ◌∙◌, length, arith}
use Rattle.prices.specs.Contents.{contents}
use Rattle.steps.specs.Place.{context_at}
use Rattle.beam_row.specs.Held.{spot_of}
use Rattle.beam_row.proofs.Trying.{OneMore, more-tried, more-other, candidates-more, candidates-all}
use Rattle.beam_row.proofs.Reach.{both-start}
use Rattle.beam_row.proofs.ways.try_levels.Goals as goal
use Rattle.beam_row.proofs.ways.try_levels.Goals.{then-nonzero, else-nonzero}

pub loop-i-init : goal.loop-i-init
loop-i-init c = (refl, λ q xs ws S L b. both-start _ b)

pub loop-i-preserved : goal.loop-i-preserved
loop-i-preserved c =
    let a = c.args in
    let inv = c.loop-i.invariant in
    let spot = spot_of a.weighed.now.place a.weighed.now.candidates.levels.now in
    let pickable = a.weighed.now.candidates.pickable in
    let here = c.loop-i-test.true in
    let nz = c.nonzero.ensures in
    let next : OneMore (contents a.weighed.now.book.now) spot a.j a.nonzero c.loop-i.i a.tail c.loop-i.best c.if-nonzero.best =
    elim c.if-nonzero.branch [
      | then-nonzero w ↦ more-tried pickable here nz w.if-nonzero.true (c.requires.context_value.0 ∙ ap (context_at _) (sym inv.0)) (w.best-is ∙ w.try_way-best.ensures)
      | else-nonzero w ↦ more-other pickable here nz w.if-nonzero.false w.best-is
    ] in
    (next.same ∙ inv.0, λ q xs ws S L b. candidates-more ws _ S here (next.more q xs _ S (rw inv.0 L) (inv.1 q xs ws S L b)))

pub returns-clause-both_of : goal.returns-clause-both_of
returns-clause-both_of c =
    let last : c.loop-i.i ≡ length c.args.weighed.now.candidates.levels.now = omega arith in
    λ q xs ws S L b. candidates-all ws _ S last (c.loop-i.invariant.1 q xs ws S L b)
