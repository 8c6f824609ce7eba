use mathlib.Core.Path.{◌≡◌, sym, ap, ◌∙◌, subst}
use mathlib.Core.Bool.{true, false}
use mathlib.Core.List.{[], ◌∷◌}
use lib.IntN.{ℤ, pos, negsuc, ◌+ℤ◌, ◌-ℤ◌}
use lib.Signed.{lt_z}
use mir.Syntax.{w32}
use mir.Val.{of_z, to_z}
use Rattle.candidates.specs.Candidates.{kept_of, filled}
use Rattle.candidates.proofs.Levels.{current-size, zero-sfits, in-sfits, in-back, wider, same_bits, plus-sfits, minus-sfits, plus-back, minus-back}
use Rattle.candidates.proofs.Lists.{kept_above, kept-below, kept-one}
use Rattle.candidates.proofs.kept.Goals as goal

pub overflow_sub-levels : goal.overflow_sub-levels
overflow_sub-levels c = minus-sfits c.args.current (current-size c.args.current c.requires)

pub returns-then-current-gt1 : goal.returns-then-current-gt1
unfolding filled
returns-then-current-gt1 c =
    let q = c.args.current in
    let h = current-size q c.requires in
    ap (λ (z : ℤ). record { levels = z ∷ to_z w32 (of_z w32 (to_z w32 (of_z w32 q) -ℤ pos 1)) ∷ pos 0 ∷ pos 0 ∷ pos 0 ∷ []; count = 3 }) (in-back q (wider h))
    ∙ ap (λ (z : ℤ). record { levels = q ∷ z ∷ pos 0 ∷ pos 0 ∷ pos 0 ∷ []; count = 3 }) (minus-back q h)
    ∙ sym (ap (filled (pos 0)) (kept_above q (subst (λ (z : ℤ). lt_z (pos 1) z ≡ true) (in-back q (wider h)) c.if-current-gt1.true)))

pub overflow_add-levels : goal.overflow_add-levels
overflow_add-levels c = plus-sfits c.args.current (current-size c.args.current c.requires)

pub returns-then-current-ltminus1 : goal.returns-then-current-ltminus1
unfolding filled
returns-then-current-ltminus1 c =
    let q = c.args.current in
    let h = current-size q c.requires in
    ap (λ (z : ℤ). record { levels = z ∷ to_z w32 (of_z w32 (to_z w32 (of_z w32 q) +ℤ pos 1)) ∷ pos 0 ∷ pos 0 ∷ pos 0 ∷ []; count = 3 }) (in-back q (wider h))
    ∙ ap (λ (z : ℤ). record { levels = q ∷ z ∷ pos 0 ∷ pos 0 ∷ pos 0 ∷ []; count = 3 }) (plus-back q h)
    ∙ sym (ap (filled (pos 0)) (kept-below q (subst (λ (z : ℤ). lt_z z (negsuc 0) ≡ true) (in-back q (wider h)) c.if-current-ltminus1.true)))

pub returns-then-current-eq0 : goal.returns-then-current-eq0
unfolding filled kept_of
returns-then-current-eq0 c =
    let q = c.args.current in
    let h = current-size q c.requires in
    let none = same_bits q (pos 0) (in-sfits q (wider h)) zero-sfits c.if-current-eq0.true in
    ap (λ (z : ℤ). record { levels = z ∷ pos 0 ∷ pos 0 ∷ pos 0 ∷ pos 0 ∷ []; count = 1 }) (in-back q (wider h) ∙ none)
    ∙ sym (ap (λ (z : ℤ). filled (pos 0) (kept_of z)) none)

pub returns-else-current-eq0 : goal.returns-else-current-eq0
unfolding filled
returns-else-current-eq0 c =
    let q = c.args.current in
    let h = current-size q c.requires in
    ap (λ (z : ℤ). record { levels = z ∷ pos 0 ∷ pos 0 ∷ pos 0 ∷ pos 0 ∷ []; count = 2 }) (in-back q (wider h))
    ∙ sym (ap (filled (pos 0)) (kept-one q
    (subst (λ (z : ℤ). lt_z (pos 1) z ≡ false) (in-back q (wider h)) c.if-current-gt1.false)
    (subst (λ (z : ℤ). lt_z z (negsuc 0) ≡ false) (in-back q (wider h)) c.if-current-ltminus1.false)
    (λ (e : q ≡ pos 0). c.if-current-eq0.false (ap (of_z w32) e))))
