use Rattle.std.proofs.Common.{◌≡◌, ◌<◌, refl, ◌∙◌, arith}
use Rattle.beam.proofs.Turns.{behind-here, in_window, reached-more}
use Rattle.beam.proofs.positions.take_positions.Goals as goal

pub loop-i-init : goal.loop-i-init
loop-i-init c = (c.requires.upto_le_from.0, (refl, c.requires.reached))

pub take_position-paths-requires : goal.take_position-paths-requires
take_position-paths-requires c =
    let pre = c.requires in
    let inv = c.loop-i.invariant in
    let some : 0 < c.loop-i.i = omega arith in
    record {
      searched = pre.searched;
      i_lt_length = λ w. (in_window w some (inv.1.1 w) (omega (arith, pre.upto_le_from.1)), behind-here w some (inv.1.1 w));
      i_in_bounds = omega (arith, some, inv.1.0, pre.length_in_bounds, pre.upto_le_from.1);
    }

pub loop-i-preserved : goal.loop-i-preserved
loop-i-preserved c =
    let inv = c.loop-i.invariant in
    let some : 0 < c.loop-i.i = omega arith in
    let step = c.take_position-paths.ensures in
    (omega (arith, c.loop-i-test.true), ((step c.requires.searched).size ∙ inv.1.0, λ w. reached-more w some (inv.1.1 w) (step w)))

pub returns : goal.returns
returns c =
    let inv = c.loop-i.invariant in
    let last : c.loop-i.i ≡ c.args.upto = omega (arith, inv.0) in
    record { choices_len_unchanged = inv.1.0; reached_after = λ w. rw last at (inv.1.1 w) }
