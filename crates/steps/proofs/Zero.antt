-- A test of a level against 0, as what it says of the level. Assumes nothing.
use mathlib.Core.Bool.{Bool, true, false, not}
use mathlib.Core.Path.{◌≡◌, refl, ap, ◌∙◌, subst⁻¹}
use Prim.Native.Nat.{zero, suc, ◌+◌, ◌≤◌}
use native.Mathlib.Omega.{arith}
use borrow.Author.Tests.{eqb-true, eqb-false}
use lib.Dec.{T, eqb, leb→le, le→leb}
use lib.IntN.{ℤ, pos, negsuc, nat_abs}
use mir.Syntax.{w32}
use mir.Val.{SFits, of_z, to_z, bool_byte}
use Rattle.bias.specs.Level.{is_level}
use Rattle.packing.specs.Signed.{pack_signed}
use Rattle.candidates.specs.Candidates.{is_current}
use Rattle.candidates.proofs.Levels.{same_bits, zero-sfits, in-back}
use Rattle.least_cost.specs.Position.{nz}

pub is-zero : (q : ℤ) → SFits w32 q → of_z w32 q ≡ 0 → q ≡ pos 0
is-zero q f e = same_bits q (pos 0) f zero-sfits e

nz-of : (q : ℤ) → (q ≡ pos 0 → ⊥) → nz q ≡ 1
unfolding nz
nz-of (pos zero) h = absurd (h refl)
nz-of (pos (suc n)) h = refl
nz-of (negsuc n) h = refl

pub zero-nz : (q : ℤ) → SFits w32 q → of_z w32 q ≡ 0 → nz q ≡ 0
unfolding nz
zero-nz q f e = ap nz (is-zero q f e)

pub other-nz : (q : ℤ) → (of_z w32 q ≡ 0 → ⊥) → nz q ≡ 1
other-nz q h = nz-of q (λ e. h (ap (of_z w32) e))

-- a test as a number
pub nonzero-byte : (q : ℤ) → SFits w32 q → bool_byte (not (eqb (of_z w32 q) 0)) ≡ nz q
nonzero-byte q f = go (eqb (of_z w32 q) 0) refl
  where
    go : (t : Bool) → eqb (of_z w32 q) 0 ≡ t → bool_byte (not t) ≡ nz q
    go true e = rw (zero-nz q f (eqb-true _ 0 e))
    go false e = rw (other-nz q (eqb-false _ 0 e))

pub zero-byte : (q : ℤ) → SFits w32 q → bool_byte (eqb (of_z w32 q) 0) + nz q ≡ 1
zero-byte q f = go (eqb (of_z w32 q) 0) refl
  where
    go : (t : Bool) → eqb (of_z w32 q) 0 ≡ t → bool_byte t + nz q ≡ 1
    go true e = rw (zero-nz q f (eqb-true _ 0 e))
    go false e = rw (other-nz q (eqb-false _ 0 e))

-- a packed level is a value that has a price
pub packed-value : (q : ℤ) → T (is_level q) → pack_signed q ≤ 131071
unfolding pack_signed
packed-value (pos n) h = omega (arith, leb→le n 32768 h)
packed-value (negsuc n) h = omega (arith, leb→le (suc n) 32768 h)

-- a level that was handed over as 32 bits is the level
pub level-back : (q : ℤ) → T (is_level q) → to_z w32 (of_z w32 q) ≡ q
level-back q h = in-back q (leb→le (nat_abs q) 32768 h)

-- the same for the levels that a search takes
pub current-level : (q : ℤ) → T (is_current q) → T (is_level q)
current-level q h = le→leb (nat_abs q) 32768 (omega (arith, leb→le (nat_abs q) 32767 h))

pub current-back : (q : ℤ) → T (is_current q) → to_z w32 (of_z w32 q) ≡ q
current-back q h = level-back q (current-level q h)

pub handed-back : (q z : ℤ) → z ≡ q → T (is_current q) → to_z w32 (of_z w32 z) ≡ q
handed-back q z e h = ap (λ (y : ℤ). to_z w32 (of_z w32 y)) e ∙ current-back q h

-- a level handed over as 32 bits is still one
pub handed-current : (q z : ℤ) → z ≡ q → T (is_current q) → T (is_current (to_z w32 (of_z w32 z)))
handed-current q z e h = subst⁻¹ (λ (y : ℤ). T (is_current y)) (handed-back q z e h) h
