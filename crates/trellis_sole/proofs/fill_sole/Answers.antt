use Rattle.std.proofs.Common.{◌≡◌, ◌+◌, sym, ◌∙◌, arith}
use Rattle.ac_context.proofs.Bounds.{covered-most}
use Rattle.half_bytes.proofs.Laws.{unpacked-size}
use Rattle.steps.proofs.Listed.{pickable-back, pickable-level}
use Rattle.trellis_row.proofs.Rooms.{fits-kept}
use Rattle.trellis_row.proofs.Rows.{so-far-none, so_far_more, coding-of}
use Rattle.trellis_sole.proofs.Sole.{count-first, one-of, sole-ready}
use Rattle.trellis_sole.proofs.fill_sole.Goals as goal

pub distortion-distortion-requires : goal.distortion-distortion-requires
distortion-distortion-requires c = pickable-level c.args.row.now.candidates.pickable 0 (count-first c.requires.one)

pub loop-r-init : goal.loop-r-init
loop-r-init c = so-far-none _ _ _ _ _ _ _ _ _ _ c.args.row.now.some

pub token_of-token-requires : goal.token_of-token-requires
token_of-token-requires c =
    record { context_bound = c.context-context.ensures.1; t = pickable-level c.args.row.now.candidates.pickable 0 (count-first c.requires.one) }

pub run_end-end-requires : goal.run_end-end-requires
run_end-end-requires c = record { coding = coding-of c.args.row.now.workable; from_le_most = c.loop-r-test.true }

pub fill_run-requires : goal.fill_run-requires
fill_run-requires c =
    let inv = c.loop-r.invariant in
    let end = c.run_end-end.ensures in
    record { from_within = (inv.from, (end.0, end.1.0)); fits = fits-kept c.requires.fits inv.size inv.elsewhere.size; only = rw (pickable-back c.args.row.now.candidates.pickable 0 (count-first c.requires.one)) (one-of _ c.requires.one) }

pub overflow_add-r : goal.overflow_add-r
overflow_add-r c =
    let work = c.args.row.now.workable in
    record { fits = omega (arith, c.run_end-end.ensures.1.0, work.left, covered-most work.covers) }

pub loop-r-smaller : goal.loop-r-smaller
loop-r-smaller c =
    let end = c.run_end-end.ensures in
    omega (arith, c.loop-r-test.true, end.0, end.1.0)

pub loop-r-preserved : goal.loop-r-preserved
loop-r-preserved c =
    let back = pickable-back c.args.row.now.candidates.pickable 0 (count-first c.requires.one) in
    let end = c.run_end-end.ensures in
    let shared = c.context-context.ensures.0 in
    let token = rw back at c.token_of-token.ensures in
    let distortion = rw back at c.distortion-distortion.ensures in
    let call = rw back at c.fill_run.ensures in
    so_far_more end.0 end.1.0 c.loop-r.invariant call.current_len_unchanged call.elsewhere
    (call.begun (λ n low high. sole-ready n _ c.args.row.now.workable c.requires.one (omega (arith, high, end.1.0)) (end.1.1 n low high ∙ sym shared) distortion token))

pub shape_of-current : goal.shape_of-current
shape_of-current c = c.loop-r.invariant.size

pub shape_of-choices : goal.shape_of-choices
shape_of-choices c = unpacked-size _ _ c.loop-r.invariant.elsewhere.size

pub returns : goal.returns
returns c =
    let inv = c.loop-r.invariant in
    let last : c.loop-r.r ≡ c.args.row.now.most + 1 = omega (arith, inv.upto, c.loop-r-test.false) in
    record { size = inv.size; elsewhere = rw last at inv.elsewhere; row_is = rw last at inv.done }
