use Rattle.std.proofs.Common.{sym, ◌∙◌, arith}
use Rattle.ac_context.proofs.Domain.{sides-most}
use Rattle.token_checks.proofs.check_shape.Goals as goal

pub overflow_mul-covered : goal.overflow_mul-covered
overflow_mul-covered c =
    record { fits = omega (arith, c.covered_blocks-covered.ensures, sides-most c.args.shape.cx c.args.shape.cy (sym c.is_side.ensures ∙ c.if-not-is_side.false) (sym c.is_side-else-not-is_side.ensures ∙ c.if-not-is_side-2.false)) }
