use Rattle.half_bytes.proofs.Laws.{unpacked-size}
use Rattle.trellis_table.proofs.Turns.{from_first, from_second, after-back, to-first, to-second}
use Rattle.trellis_table.proofs.Turns.{rowed-start, from_tail}
use Rattle.trellis_table.proofs.Steps.{last-room}
use native.Mathlib.Omega.{arith}
use mathlib.Core.Path.{◌≡◌, refl, ◌∙◌}
use Rattle.trellis_table.proofs.exchange.take_positions.Goals as goal

pub loop-i-init : goal.loop-i-init
loop-i-init c =
    ((λ t. rowed-start _ _ _ _ _ _ _ _ t.past_is t.row_is), record { first = refl; second = refl; choices = refl })

pub take_position-step-requires : goal.take_position-step-requires
take_position-step-requires c =
    let pre = c.requires in
    let inv = c.loop-i.invariant in
    let some = c.loop-i-test.true in
    let t = pre.tail_for in
    let rooms = pre.width_in_bounds in
    record { width_bound = (pre.width_bound, omega arith); next_for = from_tail t (after-back some (inv.0 t)) (from_first some (inv.0 t) c.in-First.is); width_in_bounds = (rw inv.1.first rooms.0, (rw inv.1.second rooms.1.0, rw inv.1.choices (last-room _ _ _ _ some (omega arith) rooms.1.1))) }

pub loop-i-preserved-in-First : goal.loop-i-preserved-in-First
loop-i-preserved-in-First c =
    let inv = c.loop-i.invariant in
    let some = c.loop-i-test.true in
    let own = c.requires.tail_for in
    let taken = c.take_position-step.ensures in
    let step = taken (from_tail own (after-back some (inv.0 own)) (from_first some (inv.0 own) c.in-First.is)) in (
      (λ t. to-second some (inv.0 t) (taken (from_tail t (after-back some (inv.0 t)) (from_first some (inv.0 t) c.in-First.is)))),
      record { first = inv.1.first; second = step.size ∙ inv.1.second; choices = unpacked-size _ _ step.elsewhere.size ∙ inv.1.choices },
    )

pub take_position-step-requires-in-Second : goal.take_position-step-requires-in-Second
take_position-step-requires-in-Second c =
    let pre = c.requires in
    let inv = c.loop-i.invariant in
    let some = c.loop-i-test.true in
    let t = pre.tail_for in
    let rooms = pre.width_in_bounds in
    record { width_bound = (pre.width_bound, omega arith); next_for = from_tail t (after-back some (inv.0 t)) (from_second some (inv.0 t) c.in-Second.is); width_in_bounds = (rw inv.1.second rooms.1.0, (rw inv.1.first rooms.0, rw inv.1.choices (last-room _ _ _ _ some (omega arith) rooms.1.1))) }

pub loop-i-preserved : goal.loop-i-preserved
loop-i-preserved c =
    let inv = c.loop-i.invariant in
    let some = c.loop-i-test.true in
    let own = c.requires.tail_for in
    let taken = c.take_position-step-in-Second.ensures in
    let step = taken (from_tail own (after-back some (inv.0 own)) (from_second some (inv.0 own) c.in-Second.is)) in (
      (λ t. to-first some (inv.0 t) (taken (from_tail t (after-back some (inv.0 t)) (from_second some (inv.0 t) c.in-Second.is)))),
      record { first = step.size ∙ inv.1.first; second = inv.1.second; choices = unpacked-size _ _ step.elsewhere.size ∙ inv.1.choices },
    )

pub returns : goal.returns
returns c = let inv = c.loop-i.invariant in
    let last : c.loop-i.i ≡ 0 = omega (arith, c.loop-i-test.false) in
    record { rowed = (λ t. rw last at (inv.0 t)); kept = inv.1 }
