use Rattle.std.proofs.Common.{arith}
use Rattle.c_search.proofs.Five.{at-most-five}
use Rattle.c_search.proofs.candidate_list.rdoq_candidates.Goals as goal

pub overflow_cast-count : goal.overflow_cast-count
overflow_cast-count c = omega (arith, at-most-five _ _ _ _ c.in-Ok.ensures)
