use lib.Dec.{lit≤}
use lib.ListN.{length, length-set}
use mathlib.Core.Path.{ap, ◌∙◌}
use Rattle.half_bytes.proofs.Laws.{kept-none}
use Rattle.trellis_row.proofs.Rooms.{room-of}
use Rattle.trellis_row.proofs.Rows.{elsewhere-pair, settled-kept, written-settled, written-dead, nonzero-tail-cost, zero-tail-cost, zero-tail-is, not-below}
use native.Mathlib.Nat.{le_refl}
use Rattle.trellis_row.proofs.row.row_state.Goals as goal

pub write_pair-requires : goal.write_pair-requires
write_pair-requires c = room-of c.requires.fits c.requires.r_within.0 c.requires.r_within.1

pub returns-then-infinite : goal.returns-then-infinite
returns-then-infinite c =
    let rest = room-of c.requires.fits c.requires.r_within.0 c.requires.r_within.1 in
    let dead = c.infinite.ensures c.if-infinite.true in
    let tail = c.zero_tail-z.ensures in
    let nonzero = c.nonzero_tail-x.ensures in
    let none = c.unreachable.ensures in
    let pair = c.write_pair.ensures in
    record {
      current_len_unchanged = ap length pair.0 ∙ simp length-set;
      elsewhere = rw pair.1 (elsewhere-pair _ _ _ _);
      begun = λ R.
          let zero = zero-tail-is _ _ _ _ _ _ R.zero_at R.work.pickable.few R.zero_none tail.0 tail.1 in
          written-dead _ _ _ _ _ _ _ _ _ _ _ _ _ _ _ _ c.requires.r_within.0 rest.0 rest.1 pair.0 pair.1
          (λ p q. R.work.locals _ p q (le_refl _))
          (not-below _ (nonzero-tail-cost R.work _) (rw nonzero at dead.0))
          (not-below _ (zero-tail-cost R.work _ _) (rw zero at dead.1)) none.0 none.1.0 (kept-none _ none.1.1.0 ∙ none.1.1.0) (kept-none _ none.1.1.1 ∙ none.1.1.1);
    }

pub write_pair-requires-2 : goal.write_pair-requires-2
write_pair-requires-2 c = room-of c.requires.fits c.requires.r_within.0 c.requires.r_within.1

pub returns : goal.returns
returns c =
    let rest = room-of c.requires.fits c.requires.r_within.0 c.requires.r_within.1 in
    let tail = c.zero_tail-z.ensures in
    let nonzero = c.nonzero_tail-x.ensures in
    let pair = c.write_pair-2.ensures in
    record {
      current_len_unchanged = ap length pair.0 ∙ simp length-set;
      elsewhere = rw pair.1 (elsewhere-pair _ _ _ _);
      begun = λ R.
          let few = R.work.pickable.few in
          let zero = zero-tail-is _ _ _ _ _ _ R.zero_at few R.zero_none tail.0 tail.1 in
          let states = c.settle.ensures _ _ R.located
          (λ q m. R.work.locals _ 0 q (le_refl _) (lit≤ tt) m)
          (λ q m. R.work.locals _ 1 q (le_refl _) (lit≤ tt) m)
          R.zero_at (rw nonzero (nonzero-tail-cost R.work _)) (rw zero (zero-tail-cost R.work _ _)) (λ h. tail.0 (R.zero_none h)) in
          written-settled _ _ _ _ _ _ _ _ _ _ _ _ _ _ _ _ c.requires.r_within.0 rest.0 rest.1 pair.0 pair.1
          (settled-kept few (rw (nonzero, zero) at states.0)) (settled-kept few (rw (nonzero, zero) at states.1));
    }
