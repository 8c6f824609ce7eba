use native.Mathlib.Omega.{arith}
use lib.ListN.{get_or}
use Rattle.beam.proofs.Ends.{first-few, total_here}
use Rattle.beam.proofs.ending.total_of.Goals as goal

pub offset_bounds-kept-j : goal.offset_bounds-kept-j
offset_bounds-kept-j c = record { fits = omega (arith, c.requires.j_lt_count, c.requires.countable.few) }

pub bounds-kept-j : goal.bounds-kept-j
bounds-kept-j c = omega (arith, c.requires.j_lt_count, c.requires.countable.few, c.requires.countable.three)

pub first_prev-prev-requires : goal.first_prev-prev-requires
first_prev-prev-requires c = c.requires.countable.covered

pub overflow_mul-result : goal.overflow_mul-result
overflow_mul-result c = record { fits = omega (arith, c.requires.j_lt_count, c.requires.countable.few) }

pub overflow_add-result : goal.overflow_add-result
overflow_add-result c =
    let few = first-few (get_or c.args.kept.remaining c.args.j 0) c.args.plan.covered c.first_prev-prev.ensures in
    record { fits = omega (arith, c.requires.j_lt_count, c.requires.countable.few) }

pub offset_bounds-kept-j-2 : goal.offset_bounds-kept-j-2
offset_bounds-kept-j-2 c =
    let few = first-few (get_or c.args.kept.remaining c.args.j 0) c.args.plan.covered c.first_prev-prev.ensures in
    record { fits = omega (arith, c.requires.j_lt_count, c.requires.countable.few) }

pub bounds-kept-j-2 : goal.bounds-kept-j-2
bounds-kept-j-2 c =
    let few = first-few (get_or c.args.kept.remaining c.args.j 0) c.args.plan.covered c.first_prev-prev.ensures in
    omega (arith, c.requires.j_lt_count, c.requires.countable.few, c.requires.countable.six)

pub count_cost-requires : goal.count_cost-requires
count_cost-requires c = let pre = c.requires in
    omega (arith, pre.countable.counts _ pre.j_lt_count, pre.j_lt_count, pre.countable.few)

pub returns : goal.returns
returns c = λ b xs w F. total_here _ _ b xs _ _ _ _ w F c.requires.j_lt_count c.first_prev-prev.ensures (c.count_cost.ensures b w)
