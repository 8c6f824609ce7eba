use lib.Dec.{lit≤}
use lib.ListN.{length, length-set}
use mathlib.Core.Path.{ap, ◌∙◌}
use Rattle.steps.proofs.Zero.{level-back}
use Rattle.trellis_row.proofs.Rooms.{room-of}
use Rattle.trellis_row.proofs.Rows.{elsewhere-pair, settled-kept, written-settled}
use Rattle.trellis_sole.proofs.Sole.{sole-state, sole-dead, tail-infinite, states-first, states-second}
use Rattle.trellis_sole.proofs.row_state.Goals as goal

pub write_pair-requires : goal.write_pair-requires
write_pair-requires c = room-of c.requires.fits c.requires.r_within.0 c.requires.r_within.1

pub returns-then-tail-infinity : goal.returns-then-tail-infinity
returns-then-tail-infinity c =
    let rest = room-of c.requires.fits c.requires.r_within.0 c.requires.r_within.1 in
    let tail = rw (level-back _ c.args.sole.is_level) at c.tail_of-tail.ensures in
    let states = c.states_of.ensures in
    let pair = c.write_pair.ensures in
    record {
      current_len_unchanged = ap length pair.0 ∙ simp length-set;
      elsewhere = rw pair.1 (elsewhere-pair _ _ _ _);
      begun = λ R.
          rw c.requires.only
          (written-settled _ _ _ _ _ _ _ _ _ _ _ _ _ _ _ _ c.requires.r_within.0 rest.0 rest.1 pair.0 pair.1
          (settled-kept (lit≤ tt) (sole-state R 0 (lit≤ tt) tail R.token_is.first (states-first _ _ _ states)))
          (settled-kept (lit≤ tt) (sole-state R 1 (lit≤ tt) tail R.token_is.second (states-second _ _ _ states))));
    }

pub write_pair-requires-2 : goal.write_pair-requires-2
write_pair-requires-2 c = room-of c.requires.fits c.requires.r_within.0 c.requires.r_within.1

pub returns : goal.returns
returns c =
    let rest = room-of c.requires.fits c.requires.r_within.0 c.requires.r_within.1 in
    let tail = rw (level-back _ c.args.sole.is_level) at c.tail_of-tail.ensures in
    let dead = c.unreachable.ensures in
    let pair = c.write_pair-2.ensures in
    record {
      current_len_unchanged = ap length pair.0 ∙ simp length-set;
      elsewhere = rw pair.1 (elsewhere-pair _ _ _ _);
      begun = λ R.
          let none = tail-infinite R tail c.infinity.ensures c.if-tail-infinity.false in
          rw c.requires.only
          (written-settled _ _ _ _ _ _ _ _ _ _ _ _ _ _ _ _ c.requires.r_within.0 rest.0 rest.1 pair.0 pair.1
          (settled-kept (lit≤ tt) (sole-dead R 0 (lit≤ tt) tail none dead.0 dead.1.1.0)) (settled-kept (lit≤ tt) (sole-dead R 1 (lit≤ tt) tail none dead.1.0 dead.1.1.1)));
    }
