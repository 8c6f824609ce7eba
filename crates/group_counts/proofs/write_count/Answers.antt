use native.Mathlib.Omega.{arith}
use Rattle.group_cells.specs.Cells.{per_block}
use Rattle.group_cells.proofs.Grid.{grid-more}
use Rattle.group_list.specs.Heads.{head_at, covered}
use Rattle.group_list.proofs.Order.{covers-some, covers-most}
use Rattle.group_counts.proofs.write_count.Goals as goal

pub overflow_mul-cx : goal.overflow_mul-cx
overflow_mul-cx c = record { fits = omega (arith, covers-most c.requires.i_bound.1.0) }

pub per_block-value-requires : goal.per_block-value-requires
per_block-value-requires c = (covers-some c.requires.i_bound.1.0, (covers-most c.requires.i_bound.1.0, c.requires.count_bound))

pub returns : goal.returns
unfolding head_at per_block covered
returns c =
    λ reals done g.
    let a = c.args in
    grid-more done (record { head = head_at a.words.now reals a.i; count = a.count }) _ _ _ g c.per_block-value.ensures c.write_cells.ensures
