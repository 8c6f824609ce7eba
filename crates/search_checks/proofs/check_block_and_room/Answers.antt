use Rattle.std.proofs.Common.{◌≡◌, ◌∙◌, ℕ, sym, true, false, cond, arith}
use Rattle.ac_context.proofs.Domain.{sides-most}
use Rattle.block.specs.Block.{covered}
use Rattle.block.specs.Checks.{enough_room}
use Rattle.block.specs.Data.{block_with}
use Rattle.block_checks.proofs.Laws.{passed, later-none, after-all}
use Rattle.refusals.proofs.Numbers.{number_positive}
use Rattle.weights.specs.Window.{window_for}
use Rattle.search_checks.proofs.Refusing.{room-answer}
use Rattle.search_checks.proofs.check_block_and_room.Goals as goal

pub returns-in_err-check_block : goal.returns-in_err-check_block
returns-in_err-check_block c =
    let b = block_with c.args.block.now c.args.levels.now in
    let number = c.in_err-check_block.ensures in
    let v = window_for c.args.limits.cap (covered b) in
    let room = c.args.room in
    let later = cond {A = ℕ} (enough_room c.args.asked.bytes c.args.asked.floats v.length room.choices room.row_a room.row_b) 0 14 in
    let some = later-none c.args.limits.half_width v b later (λ none. omega (arith, number_positive c.in_err-check_block.field-0.0, number, none)) in
    grind (arith, number ∙ sym some)

pub window_under-window-requires : goal.window_under-window-requires
window_under-window-requires c =
    let a = passed _ _ _ c.args.limits.some (sym c.in_ok-check_block.ensures) in
    sides-most _ _ a.first_side a.second_side

pub enough_room-requires : goal.enough_room-requires
unfolding covered
enough_room-requires c =
    let a = passed _ _ _ c.args.limits.some (sym c.in_ok-check_block.ensures) in
    (c.requires, rw c.window_under-window.ensures a.window.most)

pub returns-then-not-enough_room : goal.returns-then-not-enough_room
unfolding covered
returns-then-not-enough_room c =
    let short : c.enough_room.result ≡ false = grind arith in
    room-answer _ _ _ _ _ _ c.window_under-window.ensures c.enough_room.ensures short ∙ sym (after-all _ _ _ _ (sym c.in_ok-check_block.ensures))

pub returns : goal.returns
unfolding covered
returns c =
    let held : c.enough_room.result ≡ true = grind arith in
    room-answer _ _ _ _ _ _ c.window_under-window.ensures c.enough_room.ensures held ∙ sym (after-all _ _ _ _ (sym c.in_ok-check_block.ensures))
