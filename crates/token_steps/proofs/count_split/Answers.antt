use Rattle.std.proofs.Common.{arith}
use Rattle.token_steps.proofs.Walk.{most-in}
use Rattle.token_steps.proofs.count_split.Goals as goal

pub overflow_cast-coded : goal.overflow_cast-coded
overflow_cast-coded c = record { fits = omega (arith, most-in c.args.coded.now) }

pub split_in-requires : goal.split_in-requires
split_in-requires c = record { context_bound = (c.args.coded.now.layout.laid.count_most, omega (arith, most-in c.args.coded.now)) }
