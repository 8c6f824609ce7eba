use Rattle.std.proofs.Common.{ltb, get_or, length, refl, sym, ◌≡◌, arith}
use borrow.Author.Tests.{lt-ltb}
use Rattle.book_checks.proofs.Steps.{each-max}
use Rattle.prices.specs.Checks.{each, map_below}
use Rattle.book_checks.proofs.map_below.Goals as goal

pub loop-entry-init : goal.loop-entry-init
unfolding each
loop-entry-init c = sym (lt-ltb 0 c.args.clusters c.requires)

pub loop-entry-preserved : goal.loop-entry-preserved
loop-entry-preserved c =
    let map = c.args.map.now in
    let n = c.args.clusters in
    rw c.max-top.ensures (each-max (λ j. ltb (get_or map j 0) n) c.loop-entry.entry-index c.loop-entry.top (get_or map c.loop-entry.entry-index 0) n c.loop-entry.invariant refl)

pub returns : goal.returns
unfolding map_below
returns c =
    let all : c.loop-entry.entry-index ≡ length c.args.map.now = omega arith in
    rw c.from.ensures (sym (rw all at c.loop-entry.invariant))
