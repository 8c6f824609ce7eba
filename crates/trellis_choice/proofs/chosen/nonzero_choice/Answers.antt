use Rattle.trellis_choice.proofs.Choosing.{tied-choice, untied-choice, sum-sound, infinite-ties, not_finite, not_infinite}
use mathlib.Core.Bool.{true≢false}
use mathlib.Core.Path.{refl, sym, ◌∙◌}
use Rattle.trellis_choice.proofs.chosen.nonzero_choice.Goals as goal

pub returns-then-cost-infinity : goal.returns-then-cost-infinity
returns-then-cost-infinity c = record { pos_value = λ g each first G X e t. c.first_tied.ensures g each ∙ tied-choice g _ G _ X _ first _ e t _; value = λ g first G X e f. absurd (not_infinite _ (rw e (sum-sound g _ G _ X _ first)) (rw c.infinity.ensures at c.if-cost-infinity.true) f) }

pub returns-then-least-tail : goal.returns-then-least-tail
returns-then-least-tail c = record { pos_value = λ g each first G X e t. absurd (not_finite _ (rw e (sum-sound g _ G _ X _ first)) (rw c.infinity.ensures at c.if-cost-infinity.false) t); value = λ g first G X e f. refl }

pub returns : goal.returns
returns c = record { pos_value = λ g each first G X e t. untied-choice g _ G _ X _ first _ e t c.if-least-tail.false; value = λ g first G X e f. absurd (true≢false (sym (infinite-ties g _ G _ X _ first (rw e at f)) ∙ (rw e at c.if-least-tail.false))) }
