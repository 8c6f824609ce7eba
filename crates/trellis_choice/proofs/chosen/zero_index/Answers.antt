use Rattle.std.proofs.Common.{◌≡◌, length, ap, sym, refl, ◌∙◌, arith}
use mathlib.Core.Bool.{true≢false}
use Rattle.least_cost.specs.Position.{nz}
use Rattle.steps.proofs.Listed.{pickable-zero}
use Rattle.steps.proofs.Zero.{other-nz}
use Rattle.trellis_choice.proofs.Tying.{zero_more, zero-here, zero-all}
use Rattle.trellis_choice.proofs.chosen.zero_index.Goals as goal

pub returns-then-level-eq0 : goal.returns-then-level-eq0
unfolding nz
returns-then-level-eq0 c =
    let zero = pickable-zero c.args.candidates.now.pickable _ c.loop-j-test.true c.if-level-eq0.true in
    let has = zero-here c.loop-j-test.true c.loop-j.invariant (ap nz zero) in
    record { zero_at = record { below = λ _. c.loop-j-test.true; zero = λ _. zero }; value = λ none. absurd (true≢false (sym has ∙ none)) }

pub loop-j-preserved : goal.loop-j-preserved
loop-j-preserved c = zero_more c.loop-j-test.true c.loop-j.invariant (other-nz _ c.if-level-eq0.false)

pub returns : goal.returns
returns c =
    let last : c.loop-j.j ≡ length c.args.candidates.now.levels.now = omega arith in
    let none = zero-all (rw last at c.loop-j.invariant) in
    record { zero_at = record { below = λ has. absurd (true≢false (sym has ∙ none)); zero = λ has. absurd (true≢false (sym has ∙ none)) }; value = λ _. refl }
