use Prim.Native.Nat.{ℕ, zero, suc, ◌+◌, ◌/◌, ◌%◌, ◌≤◌}
use mathlib.Core.Path.{◌≡◌, refl, ap, ◌∙◌}
use native.Mathlib.Nat.{zero-add}
use native.Mathlib.Omega.{arith}
use borrow.Author.Tests.{eq-eqb, ne_eqb}
use lib.IntN.{ℤ, pos, negsuc, ◌-ℤ◌}
use mir.Syntax.{w32}
use mir.Val.{SFits, to_z, of_z}
use mir.ValLaws.{to_z_pos, to_z-of_z}
use Rattle.packing.specs.Signed.{unpack_signed}
use Rattle.packing.proofs.unpack_signed.Goals as goal

half : (u : ℕ) → u ≤ 65536 → to_z w32 (u / 2) ≡ pos (u / 2)
half u h = to_z_pos w32 (u / 2) (omega arith)

minus : (n : ℕ) → negsuc 0 -ℤ pos n ≡ negsuc n
minus zero = refl
minus (suc n) = ap (λ (m : ℕ). negsuc (suc m)) (zero-add n)

mirrored : (u : ℕ) → u ≤ 65536 → negsuc 0 -ℤ to_z w32 (u / 2) ≡ negsuc (u / 2)
mirrored u h = ap (λ (z : ℤ). negsuc 0 -ℤ z) (half u h) ∙ minus (u / 2)

small : (u : ℕ) → u ≤ 65536 → SFits w32 (negsuc (u / 2))
small u h = record { sfits = omega arith }

even : (u : ℕ) → u % 2 ≡ 0 → pos (u / 2) ≡ unpack_signed u
unfolding unpack_signed
even u e = rw (eq-eqb (u % 2) 0 e)

odd : (u : ℕ) → (u % 2 ≡ 0 → ⊥) → negsuc (u / 2) ≡ unpack_signed u
unfolding unpack_signed
odd u ne =
    let up : (u + 1) / 2 ≡ suc (u / 2) = omega arith in
    rw (ne_eqb (u % 2) 0 ne, up)

pub returns-then-value-eq0 : goal.returns-then-value-eq0
returns-then-value-eq0 c = half c.args.value c.requires ∙ even c.args.value c.if-value-eq0.true

pub returns-else-value-eq0 : goal.returns-else-value-eq0
returns-else-value-eq0 c =
    let u = c.args.value in
    ap (λ (z : ℤ). to_z w32 (of_z w32 z)) (mirrored u c.requires) ∙ to_z-of_z w32 (negsuc (u / 2)) (small u c.requires) ∙ odd u c.if-value-eq0.false
