use Rattle.std.proofs.Common.{◌≡◌, refl, sym, ◌∙◌, arith}
use Rattle.prices.specs.Checks.{each}
use Rattle.prices.proofs.Each.{each_more, each-fails}
use Rattle.book_rows.proofs.rows_kept.Goals as goal

pub loop-k-init : goal.loop-k-init
unfolding each
loop-k-init c = refl

pub loop-k-preserved : goal.loop-k-preserved
loop-k-preserved c = each_more _ _ c.loop-k.invariant (sym c.row_kept.ensures ∙ c.if-not-row_kept.false)

pub returns-then-not-row_kept : goal.returns-then-not-row_kept
returns-then-not-row_kept c = sym (each-fails _ _ c.loop-k.k c.loop-k-test.true (sym c.row_kept.ensures ∙ c.if-not-row_kept.true))

pub returns : goal.returns
returns c =
    let all : c.loop-k.k ≡ c.args.clusters = omega arith in
    sym (rw all at c.loop-k.invariant)
