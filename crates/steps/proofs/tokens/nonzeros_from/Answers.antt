use native.Mathlib.Omega.{arith}
use Rattle.steps.proofs.Ordered.{among-rest}
use Rattle.steps.proofs.tokens.nonzeros_from.Goals as goal

pub overflow_sub-result : goal.overflow_sub-result
overflow_sub-result c =
    let rest = among-rest c.args.scan.now c.args.levels.now c.requires.perm.0 c.args.from c.requires.from_in_bounds in
    omega (arith, rest, c.nonzeros_in.ensures, c.nonzeros_between-2.ensures)

pub returns : goal.returns
returns c =
    let rest = among-rest c.args.scan.now c.args.levels.now c.requires.perm.0 c.args.from c.requires.from_in_bounds in
    omega (arith, rest, c.nonzeros_in.ensures, c.nonzeros_between-2.ensures)
