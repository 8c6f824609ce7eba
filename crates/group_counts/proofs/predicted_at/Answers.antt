use mathlib.Core.Path.{◌∙◌}
use native.Mathlib.Omega.{arith}
use Rattle.group_cells.proofs.Grid.{grid-predicts}
use Rattle.group_list.specs.Heads.{head_at}
use Rattle.group_counts.proofs.predicted_at.Goals as goal

pub returns : goal.returns
unfolding head_at
returns c =
    λ reals done g.
    let a = c.args in
    let p = c.requires.1.0 in
    c.predict_from_top_and_left.ensures
    ∙ grid-predicts done a.cells.now g (head_at a.words.now reals a.i) p.known (omega (arith, p.wide, p.across)) (omega (arith, p.tall, p.down))
