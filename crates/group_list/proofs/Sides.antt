-- A side that passes check 7 is 1 to 32. Assumes nothing.
use mathlib.Core.Path.{◌≡◌, refl, sym}
use mathlib.Core.Bool.{Bool, true, false, ◌||◌, false≢true, or-false}
use mathlib.Core.List.{List}
use Prim.Native.Nat.{ℕ, zero, suc, ◌^◌, ◌≤◌}
use native.Mathlib.Nat.{mul-le-mul}
use native.Mathlib.Omega.{arith}
use borrow.Author.Tests.{eqb-true, ne_eqb}
use lib.Dec.{eqb}
use lib.Pow.{pow_pos, pow_mono}
use Rattle.ac_context.specs.Contexts.{is_power_below}
use Rattle.laws.proofs.Tests.{and_left, and_right}
use Rattle.group_list.specs.Checks.{sided}
use Rattle.group_list.specs.Heads.{Head, covered}

power-between : (n x : ℕ) → n ≤ 6 → is_power_below n x ≡ true → (1 ≤ x) × (x ≤ 32)
unfolding is_power_below
power-between zero x m e = absurd (false≢true e)
power-between (suc n) x m e = go (eqb x (2 ^ n)) refl e (power-between n x (omega arith))
  where
    go : (t : Bool) → eqb x (2 ^ n) ≡ t → t || is_power_below n x ≡ true → (is_power_below n x ≡ true → (1 ≤ x) × (x ≤ 32)) → (1 ≤ x) × (x ≤ 32)
    go true d k ih = rw (eqb-true x (2 ^ n) d) (pow_pos n, pow_mono {j = 5} (omega arith))
    go false d k ih = ih k

pub side-between : (x : ℕ) → is_power_below 6 x ≡ true → (1 ≤ x) × (x ≤ 32)
side-between x e = power-between 6 x (omega arith) e

-- what check 7 says of a block
pub record Sides (h : Head) : Type 0 where
  pub wide : 1 ≤ h.cx
  pub tall : 1 ≤ h.cy
  pub across : h.cx ≤ 32
  pub down : h.cy ≤ 32
  pub some : 1 ≤ covered h
  pub most : covered h ≤ 1024

pub sides-of : (before : List Head) (h : Head) → sided before h ≡ true → Sides h
unfolding sided covered
sides-of before h e =
    let x = is_power_below 6 h.cx in
    let y = is_power_below 6 h.cy in
    let a = side-between h.cx (and_left x y e) in
    let b = side-between h.cy (and_right x y e) in
    record { wide = a.0; tall = b.0; across = a.1; down = b.1; some = mul-le-mul a.0 b.0; most = mul-le-mul a.1 b.1 }
