-- Lists of numbers by their entries. Assumes nothing.
use mathlib.Core.Path.{◌≡◌, refl, sym, ap, ap₂, ◌∙◌}
use mathlib.Core.Bool.{Bool, true, false}
use mathlib.Core.List.{List, [], ◌∷◌}
use Prim.Native.Nat.{ℕ, zero, suc, ◌+◌, ◌<◌}
use native.Mathlib.Nat.{add-zero, suc-add, add-suc, zero-add, le_of_suc-le-suc, not-suc-le-zero}
use native.Mathlib.Omega.{arith}
use borrow.Author.Tests.{eqb-true, eqb-false}
use lib.Dec.{eqb}
use lib.ListN.{length, get_or, set, length-set}
use lib.Seq.{get_or-set_same, get_or-set_other}
use Rattle.tallying.specs.Tally.{listed}

pub same_entries : (xs ys : List ℕ) → length xs ≡ length ys → ((i : ℕ) → i < length xs → get_or xs i 0 ≡ get_or ys i 0) → xs ≡ ys
same_entries [] [] e h = refl
same_entries [] (y ∷ ys) e h = absurd (omega (arith, e))
same_entries (x ∷ xs) [] e h = absurd (omega (arith, e))
same_entries (x ∷ xs) (y ∷ ys) e h = ap₂ (λ (a : ℕ) (l : List ℕ). a ∷ l) (h 0 (omega arith)) (same_entries xs ys (omega (arith, e)) (λ i l. h (suc i) (omega (arith, l))))

pub listed-length : (f : ℕ → ℕ) (a n : ℕ) → length (listed f a n) ≡ n
unfolding listed
listed-length f a zero = refl
listed-length f a (suc n) = ap suc (listed-length f (suc a) n)

listed-from : (f : ℕ → ℕ) (a n i : ℕ) → i < n → get_or (listed f a n) i 0 ≡ f (a + i)
unfolding listed
listed-from f a zero i h = absurd (not-suc-le-zero h)
listed-from f a (suc n) zero h = ap f (sym (add-zero a))
listed-from f a (suc n) (suc i) h = listed-from f (suc a) n i (le_of_suc-le-suc h) ∙ ap f (suc-add a i ∙ sym (add-suc a i))

pub listed_at : (f : ℕ → ℕ) (n i : ℕ) → i < n → get_or (listed f 0 n) i 0 ≡ f i
listed_at f n i h = listed-from f 0 n i h ∙ ap f (zero-add i)

-- a list is the list of what its entries are
pub listed_is : (f : ℕ → ℕ) (n : ℕ) (xs : List ℕ) → length xs ≡ n → ((i : ℕ) → i < n → f i ≡ get_or xs i 0) → listed f 0 n ≡ xs
listed_is f n xs e h =
    same_entries (listed f 0 n) xs (listed-length f 0 n ∙ sym e)
    (λ i l. let m : i < n = omega (arith, l, listed-length f 0 n) in listed_at f n i m ∙ h i m)

-- one entry written
pub listed-set : (f g : ℕ → ℕ) (n p : ℕ) → p < n → ((i : ℕ) → (i ≡ p → ⊥) → g i ≡ f i) → set (listed f 0 n) p (g p) ≡ listed g 0 n
listed-set f g n p h others =
    sym
    (listed_is g n (set (listed f 0 n) p (g p)) (length-set (listed f 0 n) p (g p) ∙ listed-length f 0 n)
    (λ i l. go (eqb i p) refl l))
  where
    go : {i : ℕ} (t : Bool) → eqb i p ≡ t → i < n → g i ≡ get_or (set (listed f 0 n) p (g p)) i 0
    go {i} true e l = let same = eqb-true i p e in rw same (sym (get_or-set_same (listed f 0 n) p (g p) 0 (rw (listed-length f 0 n) h)))
    go {i} false e l =
        let ne = eqb-false i p e in
        others i ne ∙ sym (get_or-set_other (listed f 0 n) p i (g p) 0 ne ∙ listed_at f n i l)
