use mathlib.Core.Path.{◌≡◌, ◌∙◌, sym}
use native.Mathlib.Omega.{arith}
use borrow.Author.Tests.{lt-ltb}
use native.Mathlib.Numerals.{add-one}
use native.Mathlib.Nat.{lt_irrefl}
use Rattle.ac_context.specs.Contexts.{is_covered}
use Rattle.ac_context.proofs.Domain.{no_power, power_below, no-power-more, one_shl}
use Rattle.ac_context.proofs.log2_covered.Goals as goal

pub loop-log2-init : goal.loop-log2-init
loop-log2-init c = no_power _

pub returns-then-covered_blocks-log2 : goal.returns-then-covered_blocks-log2
unfolding is_covered
returns-then-covered_blocks-log2 c =
    let here = c.if-covered_blocks-log2.true ∙ one_shl _ c.loop-log2-test.true in
    record {
      power = λ _. here;
      tested = power_below 11 _ _ c.loop-log2-test.true here ∙ sym (lt-ltb _ _ c.loop-log2-test.true);
    }

pub loop-log2-preserved : goal.loop-log2-preserved
loop-log2-preserved c = rw add-one (no-power-more _ _ c.loop-log2.invariant (λ e. c.if-covered_blocks-log2.false (e ∙ sym (one_shl _ c.loop-log2-test.true))))

pub returns : goal.returns
unfolding is_covered
returns c =
    let at11 : c.loop-log2.log2 ≡ 11 = omega arith in
    record { power = λ h. absurd (lt_irrefl 11 h); tested = rw at11 at c.loop-log2.invariant }
