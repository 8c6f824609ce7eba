-- A window under a cap. Assumes nothing.
use mathlib.Core.Path.{◌≡◌, refl, ap₂}
use mathlib.Core.Bool.{Bool, true, false, cond}
use Prim.Native.Nat.{ℕ, ◌*◌, ◌≤◌, min}
use native.Mathlib.Omega.{arith}
use native.Mathlib.Nat.{le_trans, le-min, min-le_left, min-le_right, min-eq_left, min-eq_right}
use borrow.Author.Tests.{eqb-true}
use lib.Dec.{eqb, lit≤}
use Rattle.weights.specs.Window.{window_len, restore_len, window_of, window_for, base_len}
use Rattle.weights.specs.declared.Window.{Window}

pub base-few : (c : ℕ) → base_len c ≤ 1024
base-few c = le_trans (min-le_left (min (24 * c) 64) (63 * c)) (le_trans (min-le_right (24 * c) 64) (lit≤ tt))

window-few : (c : ℕ) → window_len c ≤ 1024
window-few c = le_trans (min-le_left _ (63 * c)) (go (eqb c 1))
  where
    go : (t : Bool) → cond t 63 (min (64 * c) 1024) ≤ 1024
    go true = lit≤ tt
    go false = min-le_right (64 * c) 1024

restored-within : (c : ℕ) → restore_len c ≤ window_len c
restored-within c = go (eqb c 1) refl
  where
    go : (t : Bool) → eqb c 1 ≡ t → cond t 20 (min (24 * c) 256) ≤ min (cond t 63 (min (64 * c) 1024)) (63 * c)
    go true e = let one = eqb-true c 1 e in le-min (lit≤ tt) (omega arith)
    go false e =
        let low = min-le_left (24 * c) 256 in
        let high = min-le_right (24 * c) 256 in
        le-min (le-min (omega arith) (omega arith)) (omega arith)

-- 1,024 positions cut nothing
pub whole-window : (c : ℕ) → window_for 1024 c ≡ window_of c
unfolding window_for window_of
whole-window c =
    let long : min 1024 (window_len c) ≡ window_len c = min-eq_right (window-few c) in
    let restored : min (restore_len c) (window_len c) ≡ restore_len c = min-eq_left (restored-within c) in
    rw (long, restored)
