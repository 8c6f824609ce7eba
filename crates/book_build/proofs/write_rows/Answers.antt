use Rattle.std.proofs.Common.{refl}
use Rattle.book_build.specs.Paint.{paint}
use Rattle.book_build.specs.Prefix.{prefix_of, single_of}
use Rattle.book_build.proofs.Prefixed.{row-after}
use Rattle.book_build.proofs.write_rows.Goals as goal

pub loop-k-init : goal.loop-k-init
unfolding paint
loop-k-init c = refl

pub loop-k-preserved : goal.loop-k-preserved
unfolding single_of
loop-k-preserved c =
    let a = c.args in
    let loop = c.loop-k in
    row-after (prefix_of a.clusters a.depths.now a.singles.now a.strict) loop.k _ _ a.symbols.now loop.symbols _ c.unseen_price-unseen.ensures refl loop.invariant c.write_row.ensures
