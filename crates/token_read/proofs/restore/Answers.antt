use Rattle.std.proofs.Common.{◌≡◌, ℕ, ◌-◌, ◌*◌, ◌/◌, ◌≤◌, List, cond, leb, length, get_or, sym, ap, ◌∙◌, arith}
use lib.IntN.{ℤ}
use mir.Syntax.{w32}
use mir.ValLaws.{to_z-of_z}
use Rattle.scan.proofs.Through.{put-none, put-length}
use Rattle.block_tokens.specs.Tokens.{covered_by, prev_by}
use Rattle.block_tokens.specs.Code.{Code}
use Rattle.block_tokens.specs.Reading.{pair, value_in, Levels, read_tokens}
use Rattle.block_tokens.proofs.Counts.{nz-most}
use Rattle.token_steps.specs.declared.layout.Layout.{Layout}
use Rattle.token_read.proofs.Restoring.{zeros-on, inside, below, coefficient, splits, level, started, put_on, At}
use Rattle.token_read.proofs.restore.Goals as goal

first : {x : Code} {scan symbols bits : List ℕ} {old : List ℤ} (p : Layout) (qs : List ℤ) → read_tokens x p.shape symbols bits ≡ Levels qs
    → (count prev : ℕ) → count ≡ value_in x p.count_context (pair (get_or symbols 0 0) (get_or bits 0 0)) → prev ≡ cond (leb count (64 * p.covered / 16)) 1 0
    → At x p.shape scan symbols bits old qs old p.covered prev count 1
unfolding prev_by
first {x} {scan} {symbols} {bits} {old} p qs e count prev ec ep =
    let b = started x p.shape symbols bits qs e in
    let none : covered_by p.shape - covered_by p.shape ≡ 0 = omega arith in
    rw (ep, ec, p.laid.covered_is, p.laid.count_is) (record { alike = b.alike; rest = b.at; put_there = rw none (sym (put-none scan qs (covered_by p.shape) old)) })

pub bounds-symbols-0 : goal.bounds-symbols-0
bounds-symbols-0 c = (started _ _ _ _ _ c.requires.accepted.read).some

pub bounds-bits-0 : goal.bounds-bits-0
bounds-bits-0 c = let b = started _ _ _ _ _ c.requires.accepted.read in omega (arith, b.some, b.alike)

pub read_in-count-requires : goal.read_in-count-requires
read_in-count-requires c =
    let laid = c.args.layout.laid in
    record { context_bound = laid.count_most; bits_value = rw laid.count_is (started _ _ _ _ _ c.requires.accepted.read).splits }

pub loop-owed-init : goal.loop-owed-init
loop-owed-init c = λ qs e. first c.args.layout qs e _ _ c.read_in-count.ensures c.first_prev-prev.ensures

pub context_at-context-requires : goal.context_at-context-requires
context_at-context-requires c =
    let here = c.loop-owed.invariant _ c.requires.accepted.read in
    coefficient _ _ _ _ _ _ _ _ _ here.rest here.alike c.loop-owed-test.true

pub offset_bounds-symbols-i : goal.offset_bounds-symbols-i
offset_bounds-symbols-i c =
    let here = (c.loop-owed.invariant _ c.requires.accepted.read).rest in
    record { fits = omega (arith, here.place, here.to, c.args.layout.laid.covered_is, c.args.layout.laid.most) }

pub bounds-symbols-i : goal.bounds-symbols-i
bounds-symbols-i c = inside _ _ _ _ _ _ _ _ _ (c.loop-owed.invariant _ c.requires.accepted.read).rest c.loop-owed-test.true

pub offset_bounds-bits-i : goal.offset_bounds-bits-i
offset_bounds-bits-i c =
    let here = (c.loop-owed.invariant _ c.requires.accepted.read).rest in
    record { fits = omega (arith, here.place, here.to, c.args.layout.laid.covered_is, c.args.layout.laid.most) }

pub bounds-bits-i : goal.bounds-bits-i
bounds-bits-i c =
    let here = c.loop-owed.invariant _ c.requires.accepted.read in
    omega (arith, inside _ _ _ _ _ _ _ _ _ here.rest c.loop-owed-test.true, here.alike)

pub read_in-value-requires : goal.read_in-value-requires
read_in-value-requires c =
    let here = c.loop-owed.invariant _ c.requires.accepted.read in
    let context = c.context_at-context.ensures in
    record { context_bound = context.1; bits_value = rw context.0 (splits _ _ _ _ _ _ _ _ _ here.rest here.alike c.loop-owed-test.true) }

pub unpack_signed-requires : goal.unpack_signed-requires
unpack_signed-requires c =
    let here = c.loop-owed.invariant _ c.requires.accepted.read in
    (level _ _ _ _ _ _ _ _ _ here.rest here.alike c.loop-owed-test.true _ (rw c.context_at-context.ensures.0 at c.read_in-value.ensures)).small

pub write_level-requires : goal.write_level-requires
write_level-requires c =
    let here = c.loop-owed.invariant _ c.requires.accepted.read in
    let scanned = c.requires.scanned in
    let in_block = below _ _ _ _ _ _ _ _ _ here.rest here.alike c.loop-owed-test.true in
    let long = ap length here.put_there ∙ put-length _ _ _ _ _ in
    record { k_in_bounds = rw scanned.order.size in_block; k_in_bounds_2 = rw (long, scanned.long) (scanned.order.bound _ in_block) }

pub overflow_sub-owed : goal.overflow_sub-owed
overflow_sub-owed c =
    let few : c.nonzero_value-prev.result ≤ 1 = rw c.nonzero_value-prev.ensures (nz-most _) in
    omega (arith, c.loop-owed-test.true)

pub overflow_add-k : goal.overflow_add-k
overflow_add-k c =
    let here = c.loop-owed.invariant _ c.requires.accepted.read in
    let laid = c.args.layout.laid in
    record { fits = omega (arith, here.rest.to, laid.covered_is, laid.most) }

pub overflow_add-i : goal.overflow_add-i
overflow_add-i c =
    let here = (c.loop-owed.invariant _ c.requires.accepted.read).rest in
    record { fits = omega (arith, here.place, here.to, c.args.layout.laid.covered_is, c.args.layout.laid.most) }

pub loop-owed-smaller : goal.loop-owed-smaller
loop-owed-smaller c =
    let here = c.loop-owed.invariant _ c.requires.accepted.read in
    omega (arith, below _ _ _ _ _ _ _ _ _ here.rest here.alike c.loop-owed-test.true, c.requires.scanned.order.size)

pub loop-owed-preserved : goal.loop-owed-preserved
loop-owed-preserved c = λ qs e.
    let now = c.loop-owed.invariant qs e in
    let q = level _ _ _ _ _ _ _ _ _ now.rest now.alike c.loop-owed-test.true _ (rw c.context_at-context.ensures.0 at c.read_in-value.ensures) in
    let written = to_z-of_z w32 c.unpack_signed.result (record { sfits = c.unpack_signed.type_inv }) ∙ c.unpack_signed.ensures in
    rw c.nonzero_value-prev.ensures
    (record { alike = now.alike; rest = q.there; put_there = put_on _ qs _ _ _ _ _ _ now.rest.from now.put_there c.write_level.ensures (written ∙ sym q.level) })

pub returns : goal.returns
returns c =
    let here = c.loop-owed.invariant _ c.requires.accepted.read in
    record {
      from = here.rest.from;
      to = here.rest.to;
      put_there = λ qs e. (c.loop-owed.invariant qs e).put_there;
      zeros = λ qs e. zeros-on _ _ _ _ _ _ _ _ _ (c.loop-owed.invariant qs e).rest c.loop-owed-test.false;
    }
