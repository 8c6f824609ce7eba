use mathlib.Core.Path.{◌≡◌, sym, ap, ◌∙◌}
use mathlib.Core.Bool.{Bool, cond}
use mathlib.Core.List.{[], ◌∷◌}
use lib.Dec.{leb→le}
use lib.IntN.{ℤ, pos, nat_abs}
use mir.Syntax.{w32}
use mir.Val.{of_z}
use Rattle.candidates.specs.Candidates.{filled}
use Rattle.candidates.specs.Steps.{with_zero}
use Rattle.candidates.proofs.Levels.{zero-sfits, in-sfits, in-back, wider, same_bits, eq-eq_z, ne-eq_z}
use Rattle.candidates.proofs.with_zero.Goals as goal

pub returns-then-current-eq0 : goal.returns-then-current-eq0
unfolding with_zero
returns-then-current-eq0 c =
    let q = c.args.current in
    let h = wider (leb→le (nat_abs q) 32767 c.requires) in
    let none = same_bits q (pos 0) (in-sfits q h) zero-sfits c.if-current-eq0.true in
    ap (λ (z : ℤ). record { levels = z ∷ pos 0 ∷ z ∷ z ∷ z ∷ []; count = 1 }) (in-back q h)
    ∙ ap (λ (z : ℤ). record { levels = q ∷ z ∷ q ∷ q ∷ q ∷ []; count = 1 }) (sym none)
    ∙ sym (ap (λ (b : Bool). filled q (cond b (q ∷ []) (q ∷ pos 0 ∷ []))) (eq-eq_z q (pos 0) none))

pub returns-else-current-eq0 : goal.returns-else-current-eq0
unfolding with_zero
returns-else-current-eq0 c =
    let q = c.args.current in
    let h = wider (leb→le (nat_abs q) 32767 c.requires) in
    ap (λ (z : ℤ). record { levels = z ∷ pos 0 ∷ z ∷ z ∷ z ∷ []; count = 2 }) (in-back q h)
    ∙ sym (ap (λ (b : Bool). filled q (cond b (q ∷ []) (q ∷ pos 0 ∷ []))) (ne-eq_z q (pos 0) (λ (e : q ≡ pos 0). c.if-current-eq0.false (ap (of_z w32) e))))
