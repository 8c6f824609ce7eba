-- A loop that takes a maximum.
use Prim.Native.Nat.{ℕ, ◌+◌, max}
use mathlib.Core.Path.{◌≡◌, refl, sym}
use mathlib.Core.Bool.{Bool, true, false, ◌&&◌}
use native.Mathlib.Omega.{arith}
use native.Mathlib.Numerals.{add-one}
use lib.Dec.{ltb}
use borrow.Author.Tests.{lt-ltb, le-ltb, ltb-true, ltb-false}
use Rattle.prices.specs.Checks.{each}

max-below : (a b n : ℕ) → ltb (max a b) n ≡ (ltb a n && ltb b n)
max-below a b n = go (ltb a n) (ltb b n) refl refl
  where
    go : (s t : Bool) → ltb a n ≡ s → ltb b n ≡ t → ltb (max a b) n ≡ (s && t)
    go true true p q = let h = ltb-true a n p in let k = ltb-true b n q in lt-ltb (max a b) n (omega arith)
    go true false p q = let k = ltb-false b n q in le-ltb (max a b) n (omega arith)
    go false t p q = let k = ltb-false a n p in le-ltb (max a b) n (omega arith)

-- a loop that takes a maximum
pub each-max : (p : ℕ → Bool) (i top e n : ℕ) → each i p ≡ ltb top n → p i ≡ ltb e n → each (i + 1) p ≡ ltb (max top e) n
unfolding each
each-max p i top e n h k = rw (add-one i, h, k) (sym (max-below top e n))
