use Rattle.std.proofs.Common.{◌≡◌, ◌-◌, arith, ap, ◌∙◌}
use mir.Syntax.{w32}
use mir.ValLaws.{to_z-of_z}
use Rattle.least_cost.specs.Position.{nz}
use Rattle.steps.proofs.Counting.{among-most, among_none, among_first}
use Rattle.steps.proofs.tokens.nonzeros_between.Goals as goal

pub overflow_add-count : goal.overflow_add-count
overflow_add-count c =
    let here = among_first c.args.scan.now c.args.levels.now c.args.end c.loop-k.k c.loop-k-test.true in
    let most = among-most c.args.scan.now c.args.levels.now c.args.from (c.args.end - c.args.from) in
    let level = ap nz (to_z-of_z w32 c.level_at.result (record { sfits = c.level_at.type_inv }) ∙ c.level_at.ensures) in
    record { fits = omega (arith, here, most, level, c.nonzero-count.ensures, c.loop-k.invariant, c.ranges.end.fits) }

pub loop-k-preserved : goal.loop-k-preserved
loop-k-preserved c =
    let here = among_first c.args.scan.now c.args.levels.now c.args.end c.loop-k.k c.loop-k-test.true in
    let level = ap nz (to_z-of_z w32 c.level_at.result (record { sfits = c.level_at.type_inv }) ∙ c.level_at.ensures) in
    omega (arith, here, level, c.nonzero-count.ensures, c.loop-k.invariant)

pub returns : goal.returns
returns c =
    let last : c.loop-k.k ≡ c.args.end = omega (arith, c.requires.from_le_end.0) in
    omega (arith, rw last at c.loop-k.invariant, among_none c.args.scan.now c.args.levels.now c.args.end)
