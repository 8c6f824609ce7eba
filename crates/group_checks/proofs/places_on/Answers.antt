use mathlib.Core.Path.{sym, ◌∙◌, ap₂}
use mathlib.Core.Bool.{◌&&◌}
use borrow.Author.Rules.{rules}
use Rattle.group_list.proofs.Order.{rest-start, rest_more, rest-fails, rest_all}
use Rattle.group_checks.proofs.Marks.{placed_at, marks-more, apart-is, neighboured-is, flag-start, flag-more, flag-all, refused-30, refused-31, refused_none}
use Rattle.group_checks.proofs.places_on.Goals as goal

pub loop-i-init : goal.loop-i-init
loop-i-init c = (c.requires.marks, (rest-start _ _, flag-start _ _))

pub returns-then-not-free_cells : goal.returns-then-not-free_cells
returns-then-not-free_cells c =
    let loop = c.loop-i in
    let placed = placed_at _ c.requires.tested.0 c.requires.tested.1.0 c.requires.tested.1.1 loop.i c.loop-i-test.true in
    refused-30 _ (rest-fails _ _ _ loop.invariant.1.0 c.loop-i-test.true (λ reals. apart-is c.args.words.now loop.i loop.marks loop.invariant.0 placed reals ∙ sym c.free_cells.ensures ∙ c.if-not-free_cells.true))

pub loop-i-preserved : goal.loop-i-preserved
loop-i-preserved c =
    let loop = c.loop-i in
    let words = c.args.words.now in
    let inside = c.loop-i-test.true in
    let placed = placed_at _ c.requires.tested.0 c.requires.tested.1.0 c.requires.tested.1.1 loop.i inside in
    let near = ap₂ ◌&&◌ c.near_left-left.ensures c.near_up-up.ensures in (
      marks-more _ _ _ _ loop.invariant.0 c.write_cells.ensures,
      (
        rest_more _ _ _ loop.invariant.1.0 inside (λ reals. apart-is words loop.i loop.marks loop.invariant.0 placed reals ∙ sym c.free_cells.ensures ∙ c.if-not-free_cells.false),
        flag-more _ _ _ _ _ _ loop.invariant.1.1 inside (λ reals. neighboured-is words loop.i loop.marks loop.invariant.0 placed reals ∙ sym near) (search rules),
      ),
    )

pub returns-then-neighboured-2 : goal.returns-then-neighboured-2
returns-then-neighboured-2 c =
    let inv = c.loop-i.invariant in
    let all = c.loop-i-test.false in
    refused_none _ (rest_all _ _ _ inv.1.0 all) (λ reals. sym c.if-neighboured-2.true ∙ flag-all _ _ _ _ inv.1.1 all reals)

pub returns-else-neighboured-2 : goal.returns-else-neighboured-2
returns-else-neighboured-2 c =
    let inv = c.loop-i.invariant in
    let all = c.loop-i-test.false in
    refused-31 _ (rest_all _ _ _ inv.1.0 all) (λ reals. sym c.if-neighboured-2.false ∙ flag-all _ _ _ _ inv.1.1 all reals)
