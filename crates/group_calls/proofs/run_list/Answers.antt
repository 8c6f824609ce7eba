use mathlib.Core.Path.{◌≡◌, refl, ◌∙◌}
use Rattle.std.proofs.Common.{Err, rules}
use Prim.Native.Nat.{◌<◌}
use native.Mathlib.Omega.{arith}
use Rattle.group_list.specs.Heads.{head_at, blocks_in, covered}
use Rattle.group_list.proofs.Passed.{here_placed, here_floats}
use Rattle.group_calls.proofs.Looping.{few, looping-none, looping-all, looping-short, inside, looping-refused, looping-more}
use Rattle.group_calls.proofs.Telling.{mapped-of, passed-of, answer-refused, answer-settles}
use Rattle.group_calls.proofs.run_list.Goals as goal

pub loop-index-init : goal.loop-index-init
loop-index-init c = record { same = record { choices = refl; row_a = refl; row_b = refl }; looping = looping-none _ _ _ _ _ _ c.requires.grid }

pub overflow_cast-settled : goal.overflow_cast-settled
overflow_cast-settled c = let lists = c.args.lists.now in record { fits = omega (arith, c.loop-index-test.true, few lists.words.now lists.reals.now c.requires.passed) }

pub size_at-n-requires : goal.size_at-n-requires
size_at-n-requires c =
    let lists = c.args.lists.now in
    let more : c.loop-index.index < blocks_in lists.words.now = c.loop-index-test.true in
    (more, here_placed lists.words.now lists.reals.now c.requires.passed c.loop-index.index more)

pub enough-requires : goal.enough-requires
enough-requires c =
    let L = c.loop-index.invariant.looping in
    (L.in-scans, (L.in-sources, (L.in-inverses, L.so_far.within)))

pub returns-then-not-enough-clause-ran : goal.returns-then-not-enough-clause-ran
unfolding head_at covered
returns-then-not-enough-clause-ran c =
    looping-short _ _ _ _ _ _ c.loop-index.invariant.looping c.loop-index-test.true c.size_at-n.ensures c.enough.ensures c.if-not-enough.true

pub settle_part-requires : goal.settle_part-requires
unfolding head_at covered
settle_part-requires c =
    let L = c.loop-index.invariant.looping in
    record {
      listed = (
        c.loop-index-test.true,
        (here_placed _ _ c.requires.passed _ c.loop-index-test.true, here_floats _ _ c.requires.passed _ c.loop-index-test.true),
      );
      n_is_size = c.size_at-n.ensures;
      lent = inside _ _ _ _ _ _ L c.loop-index-test.true c.size_at-n.ensures c.enough.ensures c.if-not-enough.false;
      cells_len = L.grid.long;
    }

pub returns-in_err-map_err-clause-ran : goal.returns-in_err-map_err-clause-ran
unfolding head_at covered
returns-in_err-map_err-clause-ran c =
    let step = c.settle_part.ensures.stepped in
    let told : c.from_residual.result ≡ Err c.in_err-map_err.field-0.0 = grind arith in
    let stopped = c.in_err-map_err.field-0.0 in
    let found = mapped-of c.settle_part.result stopped c.in_err-map_err.ensures.cases in
    let is : stopped ≡ record { refusal = found.0; settled = c.loop-index.index } = search rules in
    rw (told, is)
    (looping-refused _ _ _ _ _ _ c.loop-index.invariant.looping c.loop-index-test.true c.size_at-n.ensures c.enough.ensures c.if-not-enough.false (record { found = step.found; wrote = step.wrote }) (answer-refused found.1) refl)

pub overflow_add-at : goal.overflow_add-at
unfolding head_at covered
overflow_add-at c =
    omega (arith, (inside _ _ _ _ _ _ c.loop-index.invariant.looping c.loop-index-test.true c.size_at-n.ensures c.enough.ensures c.if-not-enough.false).0)

pub loop-index-preserved : goal.loop-index-preserved
unfolding head_at covered
loop-index-preserved c =
    let step = c.settle_part.ensures in
    let kept = c.loop-index.invariant.same in
    let passed = passed-of c.settle_part.result _ c.in_ok-map_err.ensures.cases in
    record {
      same = record { choices = step.same.choices ∙ kept.choices; row_a = step.same.row_a ∙ kept.row_a; row_b = step.same.row_b ∙ kept.row_b };
      looping = looping-more _ _ _ _ _ _ c.loop-index.invariant.looping c.loop-index-test.true c.size_at-n.ensures c.enough.ensures c.if-not-enough.false (record { found = step.stepped.found; wrote = step.stepped.wrote }) (answer-settles passed);
    }

pub overflow_cast-result : goal.overflow_cast-result
overflow_cast-result c = let lists = c.args.lists.now in record { fits = omega (arith, c.loop-index.invariant.looping.upto, few lists.words.now lists.reals.now c.requires.passed) }

pub returns-clause-ran : goal.returns-clause-ran
returns-clause-ran c =
    let end : blocks_in c.args.lists.now.words.now ≡ c.loop-index.index = omega (arith, c.loop-index.auto.index-end, c.loop-index-test.false) in
    rw end (looping-all _ _ _ _ _ _ c.loop-index.invariant.looping (λ k. omega (arith, k, c.loop-index-test.false)))
