use Rattle.std.proofs.Common.{◌∙◌}
use Rattle.beam_paths.proofs.Keeping.{insert-one, insert-two, insert-three, insert-none, goes-is, next-min, next-is}
use Rattle.beam_paths.proofs.kept.Kept.insert.Goals as goal

pub returns-then-goes_before : goal.returns-then-goes_before
returns-then-goes_before c =
    λ q xs ys y Y w.
    let count = next-is w (c.min-count.ensures ∙ next-min _ c.args.self.few) in
    insert-one Y ys w count (goes-is Y w w.one c.goes_before.ensures c.if-goes_before.true)

pub returns-then-goes_before-2 : goal.returns-then-goes_before-2
returns-then-goes_before-2 c =
    λ q xs ys y Y w.
    let count = next-is w (c.min-count.ensures ∙ next-min _ c.args.self.few) in
    insert-two Y ys w count (goes-is Y w w.one c.goes_before.ensures c.if-goes_before.false) (goes-is Y w w.two c.goes_before-2.ensures c.if-goes_before-2.true)

pub returns-then-goes_before-3 : goal.returns-then-goes_before-3
returns-then-goes_before-3 c =
    λ q xs ys y Y w.
    let count = next-is w (c.min-count.ensures ∙ next-min _ c.args.self.few) in
    insert-three Y ys w count (goes-is Y w w.one c.goes_before.ensures c.if-goes_before.false) (goes-is Y w w.two c.goes_before-2.ensures c.if-goes_before-2.false) (goes-is Y w w.three c.goes_before-3.ensures c.if-goes_before-3.true)

pub returns : goal.returns
returns c =
    λ q xs ys y Y w.
    insert-none Y ys w (goes-is Y w w.one c.goes_before.ensures c.if-goes_before.false) (goes-is Y w w.two c.goes_before-2.ensures c.if-goes_before-2.false) (goes-is Y w w.three c.goes_before-3.ensures c.if-goes_before-3.false)
