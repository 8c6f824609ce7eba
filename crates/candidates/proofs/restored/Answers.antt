use mathlib.Core.Path.{◌≡◌, sym, ap, ◌∙◌, subst}
use mathlib.Core.Bool.{true, false}
use mathlib.Core.List.{[], ◌∷◌}
use Prim.Native.Nat.{◌+◌, ◌≤◌}
use native.Mathlib.Omega.{arith}
use lib.Dec.{T}
use lib.IntN.{ℤ, pos, nat_abs, suc_ℤ, pred_ℤ, ◌+ℤ◌, ◌-ℤ◌}
use lib.Ieee.{Float}
use mir.Syntax.{w32}
use mir.Val.{to_z, of_z}
use Rattle.candidates.specs.Nearest.{nearest_of}
use Rattle.candidates.specs.Candidates.{is_current, settled, drop_repeats, restored_of, filled}
use Rattle.candidates.specs.Steps.{with_zero, offer}
use Rattle.candidates.specs.declared.Candidates.{Candidates}
use Rattle.candidates.proofs.Rounding.{nearest_in}
use Rattle.candidates.proofs.Levels.{current-size, in-back, wider, plus-sfits, minus-sfits, plus-back, minus-back}
use Rattle.candidates.proofs.Lists.{chain, with-zero-room, offer-room}
use Rattle.candidates.proofs.restored.Goals as goal

pub round_half_away-r-requires : goal.round_half_away-r-requires
round_half_away-r-requires c = c.requires.is_ideal

-- the rounding's size
small : (x : Float) (r : ℤ) → nat_abs (nearest_of x) ≤ 32767 → r ≡ nearest_of x → nat_abs r ≤ 32767
small x r h e = subst (λ (z : ℤ). nat_abs z ≤ 32767) (sym e) h

pub is_settled-requires : goal.is_settled-requires
is_settled-requires c = let x = c.args.ideal in
    let r = c.round_half_away-r.result in
    record { is_ideal = c.requires.is_ideal; is_rounding = in-back r (wider (small x r (nearest_in x c.requires.is_ideal) c.round_half_away-r.ensures)) ∙ c.round_half_away-r.ensures }

-- the definition's list, by its test
alone : (x : Float) (q : ℤ) → settled x ≡ true → restored_of x q ≡ q ∷ []
unfolding restored_of
alone x q e = rw e

tried : (x : Float) (q : ℤ) → settled x ≡ false → restored_of x q ≡ drop_repeats (q ∷ pos 0 ∷ nearest_of x ∷ pred_ℤ (nearest_of x) ∷ suc_ℤ (nearest_of x) ∷ [])
unfolding restored_of
tried x q e = rw e

pub returns-then-is_settled : goal.returns-then-is_settled
unfolding filled
returns-then-is_settled c =
    let q = c.args.current in
    ap (λ (z : ℤ). record { levels = z ∷ z ∷ z ∷ z ∷ z ∷ []; count = 1 }) (in-back q (wider (current-size q c.requires.is_current)))
    ∙ sym (ap (filled q) (alone c.args.ideal q (sym c.is_settled.ensures ∙ c.if-is_settled.true)))

pub with_zero-first-requires : goal.with_zero-first-requires
with_zero-first-requires c =
    let q = c.args.current in
    subst (λ (z : ℤ). T (is_current z)) (sym (in-back q (wider (current-size q c.requires.is_current)))) c.requires.is_current

first-room : (t : Candidates) (q : ℤ) → t ≡ with_zero q → t.count ≤ 2
first-room t q e = subst (λ (x : Candidates). x.count ≤ 2) (sym e) (with-zero-room q)

next-room : (t u : Candidates) (q l : ℤ) → u ≡ offer t q l → u.count ≤ t.count + 1
next-room t u q l e = subst (λ (x : Candidates). x.count ≤ t.count + 1) (sym e) (offer-room t q l)

pub offered-second-requires : goal.offered-second-requires
offered-second-requires c = let h = first-room _ _ c.with_zero-first.ensures in omega arith

pub overflow_sub-r : goal.overflow_sub-r
overflow_sub-r c =
    let x = c.args.ideal in
    let r = c.round_half_away-r.result in
    minus-sfits r (small x r (nearest_in x c.requires.is_ideal) c.round_half_away-r.ensures)

pub offered-third-requires : goal.offered-third-requires
offered-third-requires c =
    let h = first-room _ _ c.with_zero-first.ensures in
    let k = next-room _ _ _ _ c.offered-second.ensures in
    omega arith

pub overflow_add-r : goal.overflow_add-r
overflow_add-r c =
    let x = c.args.ideal in
    let r = c.round_half_away-r.result in
    plus-sfits r (small x r (nearest_in x c.requires.is_ideal) c.round_half_away-r.ensures)

pub offered-requires : goal.offered-requires
offered-requires c =
    let h = first-room _ _ c.with_zero-first.ensures in
    let k = next-room _ _ _ _ c.offered-second.ensures in
    let l = next-room _ _ _ _ c.offered-third.ensures in
    omega arith

-- the machine's reading of a level
abbrev read : ℤ → ℤ
read q = to_z w32 (of_z w32 q)

steps : (q r : ℤ) (t u v w : Candidates) → nat_abs q ≤ 32767 → nat_abs r ≤ 32767 → t ≡ with_zero (read q) → u ≡ offer t (read q) (read r) → v ≡ offer u (read q) (read (read r -ℤ pos 1))
    → w ≡ offer v (read q) (read (read r +ℤ pos 1)) → w ≡ offer (offer (offer (with_zero q) q r) q (pred_ℤ r)) q (suc_ℤ r)
steps q r t u v w h k e f g i =
    i
    ∙ ap (λ (x : Candidates). offer x (read q) (read (read r +ℤ pos 1))) (g ∙ ap (λ (x : Candidates). offer x (read q) (read (read r -ℤ pos 1))) (f ∙ ap (λ (x : Candidates). offer x (read q) (read r)) e))
    ∙ ap (λ (z : ℤ). offer (offer (offer (with_zero z) z (read r)) z (read (read r -ℤ pos 1))) z (read (read r +ℤ pos 1))) (in-back q (wider h))
    ∙ ap (λ (z : ℤ). offer (offer (offer (with_zero q) q z) q (read (read r -ℤ pos 1))) q (read (read r +ℤ pos 1))) (in-back r (wider k))
    ∙ ap (λ (z : ℤ). offer (offer (offer (with_zero q) q r) q z) q (read (read r +ℤ pos 1))) (minus-back r k)
    ∙ ap (λ (z : ℤ). offer (offer (offer (with_zero q) q r) q (pred_ℤ r)) q z) (plus-back r k)

pub returns : goal.returns
returns c =
    let tested = c.before.before in
    let rounded = tested.before.before in
    let x = rounded.args.ideal in
    let q = rounded.args.current in
    let r = rounded.round_half_away-r.result in
    let e = rounded.round_half_away-r.ensures in
    steps q r _ _ _ _ (current-size q rounded.requires.is_current) (small x r (nearest_in x rounded.requires.is_ideal) e) c.with_zero-first.ensures c.offered-second.ensures
    c.offered-third.ensures c.offered.ensures
    ∙ chain q r
    ∙ ap (λ (z : ℤ). filled q (drop_repeats (q ∷ pos 0 ∷ z ∷ pred_ℤ z ∷ suc_ℤ z ∷ []))) e
    ∙ sym (ap (filled q) (tried x q (sym tested.is_settled.ensures ∙ tested.if-is_settled.false)))
