use Rattle.std.proofs.Common.{ap, not, arith}
use Rattle.laws.proofs.Tests.{held}
use Rattle.block_checks.proofs.Sides.{product-most}
use Rattle.block_checks.proofs.check_form.Goals as goal

pub overflow_mul-covered : goal.overflow_mul-covered
overflow_mul-covered c =
    let most = product-most _ _ (held c.is_side.ensures (ap not c.if-not-is_side.false)) (held c.is_side-else-not-is_side.ensures (ap not c.if-not-is_side-2.false)) in
    omega (arith, c.covered_blocks-covered.ensures)
