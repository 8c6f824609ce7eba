use Rattle.std.proofs.Common.{◌≡◌, ◌+◌, refl, sym, ap, ◌∙◌, length, length-set, arith}
use native.Mathlib.Nat.{le_refl}
use Rattle.ac_context.proofs.Bounds.{covered-most}
use Rattle.half_bytes.proofs.Laws.{unpacked-size, kept-none}
use Rattle.trellis_row.proofs.Rooms.{room-of, fits-kept}
use Rattle.trellis_row.proofs.Rows.{so-far-none, so_far_more, so-far-pair, workable-less, coding-of, located-at, elsewhere-pair, written-dead, nonzero-tail-cost, zero-tail-cost, zero-tail-is, not-below}
use Rattle.trellis_row.proofs.row.fill_row.Goals as goal

pub loop-r-init : goal.loop-r-init
loop-r-init c = (so-far-none _ _ _ _ _ _ _ _ _ _ c.args.row.now.some, (refl, refl))

pub overflow_sub-r : goal.overflow_sub-r
overflow_sub-r c = c.loop-r.invariant.0.from

pub write_pair-requires : goal.write_pair-requires
write_pair-requires c =
    let inv = c.loop-r.invariant.0 in
    room-of (fits-kept c.requires inv.size inv.elsewhere.size) inv.from c.loop-r-test.true

pub overflow_add-r : goal.overflow_add-r
overflow_add-r c =
    let work = c.args.row.now.workable in
    record { fits = omega (arith, c.loop-r-test.true, work.left, covered-most work.covers) }

pub loop-r-smaller-then-infinite : goal.loop-r-smaller-then-infinite
loop-r-smaller-then-infinite c = omega (arith, c.loop-r-test.true)

pub loop-r-preserved-then-infinite : goal.loop-r-preserved-then-infinite
loop-r-preserved-then-infinite c =
    let work = workable-less c.loop-r-test.true c.args.row.now.workable in
    let inv = c.loop-r.invariant in
    let room = room-of (fits-kept c.requires inv.0.size inv.0.elsewhere.size) inv.0.from c.loop-r-test.true in
    let at = c.zero_index-zero.ensures in
    let dead = c.infinite.ensures c.if-infinite.true in
    let tail = c.zero_tail-z.ensures in
    let nonzero = c.nonzero_tail-x.ensures in
    let zero = zero-tail-is _ _ _ _ _ _ at.zero_at work.pickable.few at.value tail.0 tail.1 in
    let none = c.unreachable.ensures in
    let pair = c.write_pair.ensures in (
      so-far-pair c.loop-r-test.true inv.0 (ap length pair.0 ∙ simp length-set) (rw pair.1 (elsewhere-pair _ _ _ _))
          (written-dead _ _ _ _ _ _ _ _ _ _ _ _ _ _ _ _ inv.0.from room.0 room.1 pair.0 pair.1
          (λ p q. work.locals _ p q (le_refl _))
          (not-below _ (nonzero-tail-cost work _) (rw nonzero at dead.0))
          (not-below _ (zero-tail-cost work _ _) (rw zero at dead.1)) none.0 none.1.0 (kept-none _ none.1.1.0 ∙ none.1.1.0) (kept-none _ none.1.1.1 ∙ none.1.1.1)),
      inv.1,
    )

pub locals_in-locals-requires : goal.locals_in-locals-requires
locals_in-locals-requires c =
    record { context_bound = c.context-context.ensures.1; each = c.distortions.ensures; first_len = c.loop-r.invariant.1 }

pub run_end-end-requires : goal.run_end-end-requires
run_end-end-requires c = record { coding = coding-of c.args.row.now.workable; from_le_most = c.loop-r-test.true }

pub fill_run-requires : goal.fill_run-requires
fill_run-requires c =
    let inv = c.loop-r.invariant.0 in
    let end = c.run_end-end.ensures in
    record { from_within = (inv.from, (end.0, end.1.0)); fits = fits-kept c.requires inv.size inv.elsewhere.size }

pub overflow_add-r-in-loop-r : goal.overflow_add-r-in-loop-r
overflow_add-r-in-loop-r c =
    let work = c.args.row.now.workable in
    record { fits = omega (arith, c.run_end-end.ensures.1.0, work.left, covered-most work.covers) }

pub loop-r-smaller : goal.loop-r-smaller
loop-r-smaller c =
    let end = c.run_end-end.ensures in
    omega (arith, c.loop-r-test.true, end.0, end.1.0)

pub loop-r-preserved : goal.loop-r-preserved
loop-r-preserved c =
    let work = c.args.row.now.workable in
    let end = c.run_end-end.ensures in
    let shared = c.context-context.ensures.0 in
    let zero = c.zero_index-zero.ensures in
    let call = c.fill_run.ensures in
    let local = c.locals_in-locals.ensures in (
      so_far_more end.0 end.1.0 c.loop-r.invariant.0 call.current_len_unchanged call.elsewhere
          (call.begun
          (λ n low high.
          record {
            work = workable-less (omega (arith, high, end.1.0)) work;
            located = located-at _ _ _ _ _ _ n _ (end.1.1 n low high ∙ sym shared) local.located;
            zero_at = zero.zero_at;
            zero_none = zero.value;
          })),
      local.lengths_kept,
    )

pub shape_of-current : goal.shape_of-current
shape_of-current c = c.loop-r.invariant.0.size

pub shape_of-choices : goal.shape_of-choices
shape_of-choices c = unpacked-size _ _ c.loop-r.invariant.0.elsewhere.size

pub returns : goal.returns
returns c =
    let inv = c.loop-r.invariant.0 in
    let last : c.loop-r.r ≡ c.args.row.now.most + 1 = omega (arith, inv.upto, c.loop-r-test.false) in
    record { size = inv.size; elsewhere = rw last at inv.elsewhere; row_is = rw last at inv.done }
