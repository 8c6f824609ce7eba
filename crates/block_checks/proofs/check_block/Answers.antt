use Rattle.std.proofs.Common.{arith}
use Rattle.block.specs.Block.{covered}
use Rattle.block.specs.Data.{block_with}
use Rattle.refusals.proofs.Numbers.{number_positive}
use Rattle.weights.specs.Window.{window_for}
use Rattle.block_checks.proofs.Laws.{form-first}
use Rattle.block_checks.proofs.check_block.Goals as goal

pub returns-in_err-check_form : goal.returns-in_err-check_form
returns-in_err-check_form c =
    let b = block_with c.args.block.now c.args.levels.now in
    let number = c.in_err-check_form.ensures in
    let first = form-first c.args.half_width (window_for c.args.cap (covered b)) b number (λ none. omega (arith, number_positive c.in_err-check_form.field-0.0, number, none)) in
    grind (arith, first)
