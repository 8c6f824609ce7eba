use mathlib.Core.Path.{◌≡◌, refl, sym, ap, ◌∙◌, subst}
use mathlib.Core.Bool.{Bool, false, ◌&&◌}
use Prim.Native.Nat.{◌≤◌, ◌^◌}
use native.Mathlib.Omega.{arith}
use lib.Dec.{T, le→leb, lt→ltb}
use lib.IntN.{ℤ, pos, negsuc, nat_abs}
use lib.Ieee.{Float, nan, inf, fin, binary32, in_float, of_int, of_bits, sub, lt}
use mir.Syntax.{w32}
use mir.Val.{to_z, of_z}
use Rattle.std.specs.Float.{float_with_sign}
use Rattle.candidates.specs.Nearest.{nearest_of}
use Rattle.candidates.specs.Candidates.{settled, abs}
use Rattle.candidates.proofs.Rounding.{nearest_in}
use Rattle.candidates.proofs.Levels.{in-back, wider}
use Rattle.candidates.proofs.is_settled.Goals as goal

exact : (q : ℤ) → nat_abs q ≤ 32767 → T (in_float binary32 q)
unfolding in_float
exact (pos n) h = le→leb n (2 ^ 24) (omega arith)
exact (negsuc n) h = lt→ltb n (2 ^ 24) (omega arith)

-- the rounding, as the cast reads it
back : (x : Float) (q : ℤ) → nat_abs (nearest_of x) ≤ 32767 → q ≡ nearest_of x → to_z w32 (of_z w32 q) ≡ nearest_of x
back x q h e = ap (λ (z : ℤ). to_z w32 (of_z w32 z)) e ∙ in-back (nearest_of x) (wider h)

pub int_to_float-off : goal.int_to_float-off
int_to_float-off c =
    let a = c.args in
    let h = nearest_in a.ideal c.requires.is_ideal in
    subst (λ (z : ℤ). T (in_float binary32 z)) (sym (back a.ideal a.rounded h c.requires.is_rounding)) (exact (nearest_of a.ideal) h)

size-same : (x : Float) → float_with_sign false x ≡ abs x
unfolding float_with_sign abs
size-same nan = refl
size-same (inf s) = refl
size-same (fin s m e) = refl

-- by the two comparisons: a is the ideal's size, and b that of its distance o from the rounding
parts : (x o a b : Float) → a ≡ float_with_sign false x → b ≡ float_with_sign false o → sub binary32 x (of_int binary32 (nearest_of x)) ≡ o
    → settled x ≡ lt (fin false 5 (negsuc 0)) a && lt b (fin false 1 (negsuc 1))
unfolding settled
parts x o a b e f g = rw (e, f, size-same x, size-same o, g)

off : (x : Float) (q : ℤ) → nat_abs (nearest_of x) ≤ 32767 → q ≡ nearest_of x → sub binary32 x (of_int binary32 (nearest_of x)) ≡ sub binary32 x (of_int binary32 (to_z w32 (of_z w32 q)))
off x q h e = ap (λ (z : ℤ). sub binary32 x (of_int binary32 z)) (sym (back x q h e))

pub returns-then-abs : goal.returns-then-abs
unfolding of_bits
returns-then-abs c =
    let x = c.args.ideal in
    sym (parts x _ _ _ c.abs.ensures.value c.abs-then-abs.ensures.value (off x c.args.rounded (nearest_in x c.requires.is_ideal) c.requires.is_rounding)
    ∙ ap (λ (t : Bool). t && lt c.abs-then-abs.result (fin false 1 (negsuc 1))) c.if-abs.true)

pub returns-else-abs : goal.returns-else-abs
unfolding of_bits
returns-else-abs c =
    let x = c.args.ideal in
    let o = sub binary32 x (of_int binary32 (nearest_of x)) in
    c.if-abs.false
    ∙ sym (parts x o _ _ c.abs.ensures.value refl refl ∙ ap (λ (t : Bool). t && lt (float_with_sign false o) (fin false 1 (negsuc 1))) c.if-abs.false)
