use Rattle.std.proofs.Common.{◌≡◌, ◌-◌, ◌*◌, ◌≤◌, ◌<◌, length, sym, arith}
use Rattle.std.proofs.lemmas.Bool.{false_from_ne_true}
use Rattle.block_tokens.specs.Tokens.{covered_by}
use Rattle.block_tokens.proofs.Counts.{nz-most}
use Rattle.token_read.proofs.Refusals.{unequal, empty, count-unsplit, count-beyond, begun, left-over-22, all-read-0, owed-25, ended-22, unsplit-20, beyond-24, on}
use Rattle.token_read.proofs.check_pairs.Goals.{then-symbols-bits-via-then-symbols-bits, then-symbols-bits-via-else-symbols-bits+then-is_empty}
use Rattle.token_read.proofs.check_pairs.Goals as goal

pub returns-then-symbols-bits : goal.returns-then-symbols-bits
returns-then-symbols-bits c =
    elim c.then-symbols-bits.branch [
      | then-symbols-bits-via-then-symbols-bits w ↦ sym (unequal _ _ _ _ w.if-symbols-bits.true)
      | then-symbols-bits-via-else-symbols-bits+then-is_empty w ↦
          let none : length c.args.symbols.now ≡ 0 = grind arith in
          sym (empty _ _ _ _ w.if-symbols-bits.false none)
    ]

pub returns-in_default : goal.returns-in_default
returns-in_default c =
    let some : 0 < length c.args.symbols.now = grind arith in
    let laid = c.args.layout.laid in
    sym (count-unsplit _ _ _ _ c.if-symbols-bits.false some (false_from_ne_true _ (rw laid.count_is at c.in_default.ensures)))

pub returns-then-owed-layout : goal.returns-then-owed-layout
returns-then-owed-layout c =
    let some : 0 < length c.args.symbols.now = grind arith in
    let laid = c.args.layout.laid in
    let count = rw laid.count_is at c.in-Some.ensures in
    sym (count-beyond _ _ _ _ c.if-symbols-bits.false some count.0 count.1 (omega (arith, c.if-owed-layout.true, laid.covered_is)))

pub loop-owed-init : goal.loop-owed-init
loop-owed-init c =
    let some : 0 < length c.args.symbols.now = grind arith in
    let laid = c.args.layout.laid in
    let count = rw laid.count_is at c.in-Some.ensures in
    rw laid.covered_is (begun _ _ _ _ c.if-symbols-bits.false some count.0 count.1 (omega (arith, c.if-owed-layout.false, laid.covered_is)) (rw laid.covered_is at c.first_prev-prev.ensures))

pub returns-then-owed-layout-2 : goal.returns-then-owed-layout-2
returns-then-owed-layout-2 c =
    owed-25 _ _ _ _ c.if-symbols-bits.false _ _ _ _ c.loop-owed.invariant c.loop-owed-test.true (omega (arith, c.if-owed-layout-2.true, c.args.layout.laid.covered_is))

pub returns-then-i-symbols : goal.returns-then-i-symbols
returns-then-i-symbols c =
    let enough : c.loop-owed.owed ≤ 64 * covered_by c.args.layout.shape - c.loop-owed.k = omega (arith, c.if-owed-layout-2.false, c.args.layout.laid.covered_is) in
    ended-22 _ _ _ _ c.if-symbols-bits.false _ _ _ _ c.loop-owed.invariant c.loop-owed-test.true enough c.if-i-symbols.true

pub returns-in_default-value_in : goal.returns-in_default-value_in
returns-in_default-value_in c =
    let enough : c.loop-owed.owed ≤ 64 * covered_by c.args.layout.shape - c.loop-owed.k = omega (arith, c.if-owed-layout-2.false, c.args.layout.laid.covered_is) in
    unsplit-20 _ _ _ _ c.if-symbols-bits.false _ _ _ _ c.loop-owed.invariant c.loop-owed-test.true enough c.if-i-symbols.false (false_from_ne_true _ (rw c.context_at-context.ensures.0 at c.in_default-value_in.ensures))

pub returns-then-value-gt65536 : goal.returns-then-value-gt65536
returns-then-value-gt65536 c =
    let enough : c.loop-owed.owed ≤ 64 * covered_by c.args.layout.shape - c.loop-owed.k = omega (arith, c.if-owed-layout-2.false, c.args.layout.laid.covered_is) in
    let value = rw c.context_at-context.ensures.0 at c.in-Some-value_in.ensures in
    beyond-24 _ _ _ _ c.if-symbols-bits.false _ _ _ _ c.loop-owed.invariant c.loop-owed-test.true enough c.if-i-symbols.false value.0 value.1 c.if-value-gt65536.true

pub overflow_sub-owed : goal.overflow_sub-owed
overflow_sub-owed c = let few : c.nonzero_value-prev.result ≤ 1 = rw c.nonzero_value-prev.ensures (nz-most _) in omega (arith, c.loop-owed-test.true)

pub loop-owed-preserved : goal.loop-owed-preserved
loop-owed-preserved c =
    let enough : c.loop-owed.owed ≤ 64 * covered_by c.args.layout.shape - c.loop-owed.k = omega (arith, c.if-owed-layout-2.false, c.args.layout.laid.covered_is) in
    let value = rw c.context_at-context.ensures.0 at c.in-Some-value_in.ensures in
    rw c.nonzero_value-prev.ensures
    (on _ _ _ _ c.if-symbols-bits.false _ _ _ _ c.loop-owed.invariant c.loop-owed-test.true enough c.if-i-symbols.false value.0 value.1 c.if-value-gt65536.false)

pub returns-then-i-symbols-2 : goal.returns-then-i-symbols-2
returns-then-i-symbols-2 c = left-over-22 _ _ _ _ c.if-symbols-bits.false _ _ _ _ c.loop-owed.invariant c.loop-owed-test.false c.if-i-symbols-2.true

pub returns : goal.returns
returns c = all-read-0 _ _ _ _ c.if-symbols-bits.false _ _ _ _ c.loop-owed.invariant c.loop-owed-test.false c.if-i-symbols-2.false
