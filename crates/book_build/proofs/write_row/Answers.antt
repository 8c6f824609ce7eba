use Rattle.std.proofs.Common.{◌*◌, ◌+◌, List, set, ap₂, ◌∙◌, refl}
use lib.Ieee.{Float}
use Rattle.book_build.specs.Paint.{paint}
use Rattle.book_build.specs.Prefix.{row_entry}
use Rattle.book_build.proofs.Painted.{paint-more}
use Rattle.book_build.proofs.write_row.Goals as goal

pub loop-j-init : goal.loop-j-init
unfolding paint
loop-j-init c = refl

pub loop-j-preserved : goal.loop-j-preserved
unfolding row_entry
loop-j-preserved c =
    let a = c.args in
    let loop = c.loop-j in
    ap₂ (λ (l : List Float) (x : Float). set l (128 * a.cluster + loop.j) x) loop.invariant c.depth_price.ensures
    ∙ paint-more (row_entry a.unseen a.single a.depths.now) (128 * a.cluster) loop.j a.symbols.now
