use Rattle.greedy.proofs.Passing.{run_none, run-some}
use lib.Ieee.{of_bits}
use Rattle.greedy.proofs.pass.run_bits.Goals as goal

pub returns-then-later-gt0 : goal.returns-then-later-gt0
unfolding of_bits
returns-then-later-gt0 c =
    λ b es el w e. run_none _ b _ e c.if-later-gt0.true

pub run_start-start-requires : goal.run_start-start-requires
run_start-start-requires c =
    c.requires.windowed

pub zeros-requires : goal.zeros-requires
zeros-requires c =
    (c.run_start-start.ensures.1, c.requires.i_bound)

pub returns : goal.returns
returns c =
    λ b es el w e. run-some _ b _ e c.if-later-gt0.false es el w.covered_is c.run_start-start.ensures.0 (c.zeros.ensures b w)
