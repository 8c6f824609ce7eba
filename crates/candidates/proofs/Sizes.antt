-- The size of a float against a bound, by tests on the float itself. Assumes nothing.
use mathlib.Core.Path.{◌≡◌, refl, sym}
use mathlib.Core.Bool.{Bool, true, false, ◌&&◌, ◌||◌}
use Prim.Native.Nat.{ℕ, suc, ◌+◌, ◌*◌, ◌<◌}
use native.Mathlib.Nat.{mul-pos, zero-lt-suc}
use native.Mathlib.Omega.{arith}
use borrow.Author.Tests.{lt-ltb}
use lib.Dec.{ltb}
use lib.IntN.{ℤ}
use lib.Ieee.{Float, nan, inf, fin, up, down, lt}
use lib.Ieee.Fits.{up_pos, down_pos}
use Rattle.candidates.specs.Candidates.{abs}

or-false : (b : Bool) → b ≡ b || false
or-false true = refl
or-false false = refl

and-true : (b : Bool) {t : Bool} → t ≡ true → b ≡ b && t
and-true true e = sym e
and-true false e = refl

true-and : {t : Bool} (b : Bool) → t ≡ true → b ≡ t && b
true-and b e = rw e

some_right : (a b : ℕ) → 0 < b → ltb 0 (a + b) ≡ true
some_right a b h = lt-ltb 0 (a + b) (omega arith)

some_left : (a b : ℕ) → 0 < a → ltb 0 (a + b) ≡ true
some_left a b h = lt-ltb 0 (a + b) (omega arith)

-- the bound is n * 2 ^ d, above zero
module _ (n : ℕ) (d : ℤ) where
  pub over : (x : Float) → lt (fin false (suc n) d) (abs x) ≡ lt (fin false (suc n) d) x || lt x (fin true (suc n) d)
  unfolding lt abs
  over nan = refl
  over (inf true) = refl
  over (inf false) = refl
  over (fin true m e) = refl
  over (fin false m e) = or-false (ltb (suc n * up d * down e) (m * up e * down d))

  above : (e : ℤ) → 0 < suc n * up d * down e
  above e = mul-pos (mul-pos (zero-lt-suc n) (up_pos d)) (down_pos e)

  pub under : (x : Float) → lt (abs x) (fin false (suc n) d) ≡ lt x (fin false (suc n) d) && lt (fin true (suc n) d) x
  unfolding lt abs
  under nan = refl
  under (inf true) = refl
  under (inf false) = refl
  under (fin true m e) = true-and (ltb (m * up e * down d) (suc n * up d * down e)) (some_right (m * up e * down d) (suc n * up d * down e) (above e))
  under (fin false m e) = and-true (ltb (m * up e * down d) (suc n * up d * down e)) (some_left (suc n * up d * down e) (m * up e * down d) (above e))
