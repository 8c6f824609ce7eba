use native.Mathlib.Omega.{arith}
use Rattle.search_checks.proofs.Starting.{past_is, tail_is}
use Rattle.search_checks.proofs.start.start_of.Goals as goal

pub tail_costs-tails-requires : goal.tail_costs-tails-requires
tail_costs-tails-requires c = let pre = c.requires in
    record { whole = pre.whole; covered_le_from = (omega arith, pre.length_in_bounds); count_value = c.nonzeros_from-past.ensures }

pub returns : goal.returns
returns c =
    λ b es el long w.
    let counted = c.nonzeros_from-past.ensures in
    let tails = c.tail_costs-tails.ensures b es el w in
    record { past_is = past_is es el long w counted; zero = tail_is es el long w counted _ 0 tails.0; one = tail_is es el long w counted _ 1 tails.1 }
