-- A biased level by the tests that the code makes on the level's bits. Assumes nothing.
use mathlib.Core.Path.{◌≡◌, refl, sym, ap, ◌∙◌}
use Prim.Native.Nat.{zero, suc, ◌^◌}
use native.Mathlib.Omega.{arith}
use lib.Dec.{T, le→leb, leb→le, lt→ltb}
use lib.IntN.{ℤ, pos, negsuc}
use lib.Ieee.{Float, binary32, of_int, in_float}
use mir.Syntax.{w32}
use mir.Val.{SFits, of_z, to_z}
use mir.ValLaws.{to_z-of_z}
use Rattle.bias.specs.Level.{is_level, corrected, level_of}

-- a level fits 32 bits, and an f32
pub level-sfits : (q : ℤ) → T (is_level q) → SFits w32 q
level-sfits (pos n) h = let k = leb→le n 32768 h in record { sfits = omega arith }
level-sfits (negsuc n) h = let k = leb→le (suc n) 32768 h in record { sfits = omega arith }

pub level-exact : (q : ℤ) → T (is_level q) → T (in_float binary32 q)
unfolding in_float
level-exact (pos n) h = let k = leb→le n 32768 h in le→leb n (2 ^ 24) (omega arith)
level-exact (negsuc n) h = let k = leb→le (suc n) 32768 h in lt→ltb n (2 ^ 24) (omega arith)

-- a level from its bits
pub from_bits : (q z : ℤ) → T (is_level q) → T (is_level z) → of_z w32 q ≡ of_z w32 z → q ≡ z
from_bits q z h k e = sym (to_z-of_z w32 q (level-sfits q h)) ∙ ap (to_z w32) e ∙ to_z-of_z w32 z (level-sfits z k)

-- neither 0 nor ±1
pub far : (one numerator : Float) (q : ℤ) → (of_z w32 q ≡ 0 → ⊥) → (of_z w32 q ≡ 1 → ⊥) → (of_z w32 q ≡ 4294967295 → ⊥) → level_of one numerator q ≡ corrected numerator (of_int binary32 q)
unfolding level_of
far one numerator (pos zero) a b c = absurd (a refl)
far one numerator (pos (suc zero)) a b c = absurd (b refl)
far one numerator (pos (suc (suc n))) a b c = refl
far one numerator (negsuc zero) a b c = absurd (c refl)
far one numerator (negsuc (suc n)) a b c = refl
