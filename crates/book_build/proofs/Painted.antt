-- The laws of `paint`.
use Prim.Native.Nat.{ℕ, zero, suc, ◌+◌, ◌<◌, ◌≤◌}
use mathlib.Core.Path.{◌≡◌, refl, ap, ap₂, ◌∙◌}
use mathlib.Core.Bool.{Bool, true, false}
use mathlib.Core.List.{List}
use native.Mathlib.Omega.{arith}
use native.Mathlib.Nat.{not-suc-le-zero, add-zero, add-suc, zero-add}
use native.Mathlib.Numerals.{add-one}
use lib.Dec.{eqb}
use lib.ListN.{length, get_or, set, length-set}
use lib.Seq.{get_or-set_same, get_or-set_other}
use borrow.Author.Tests.{eqb-true, eqb-false}
use Rattle.book_build.specs.Paint.{paint}

pub paint-length : {A : Type 0} (f : ℕ → A) (a n : ℕ) (xs : List A) → length (paint f a n xs) ≡ length xs
unfolding paint
paint-length f a zero xs = refl
paint-length f a (suc n) xs = length-set (paint f a n xs) (a + n) (f (a + n)) ∙ paint-length f a n xs

-- one more, as a loop writes it
pub paint-more : {A : Type 0} (f : ℕ → A) (a n : ℕ) (xs : List A) → set (paint f a n xs) (a + n) (f (a + n)) ≡ paint f a (n + 1) xs
unfolding paint
paint-more f a n xs = rw (add-one n)

-- a run after a run
pub paint-run : {A : Type 0} (f : ℕ → A) (a n : ℕ) (xs : List A) → paint f a n (paint f 0 a xs) ≡ paint f 0 (a + n) xs
unfolding paint
paint-run {A} f a zero xs = rw (add-zero a)
paint-run {A} f a (suc n) xs = rw add-suc (rw (zero-add (a + n)) (ap (λ (l : List A). set l (a + n) (f (a + n))) (paint-run f a n xs)))

-- functions that agree on the run
pub paint-same : {A : Type 0} (f g : ℕ → A) (a n : ℕ) (xs : List A) → ((i : ℕ) → i < n → f (a + i) ≡ g (a + i)) → paint f a n xs ≡ paint g a n xs
unfolding paint
paint-same {A} f g a zero xs h = refl
paint-same {A} f g a (suc n) xs h =
    ap₂ (λ (l : List A) (x : A). set l (a + n) x) (paint-same f g a n xs (λ i k. h i (omega arith))) (h n (omega arith))

-- what was painted
pub paint-at : {A : Type 0} (f : ℕ → A) (n : ℕ) (xs : List A) (d : A) (i : ℕ) → i < n → n ≤ length xs → get_or (paint f 0 n xs) i d ≡ f i
unfolding paint
paint-at {A} f zero xs d i h l = absurd (not-suc-le-zero h)
paint-at {A} f (suc n) xs d i h l = rw (zero-add n) (go (eqb i n) refl (paint-at f n xs d i))
  where
    go : (t : Bool) → eqb i n ≡ t → (i < n → n ≤ length xs → get_or (paint f 0 n xs) i d ≡ f i) → get_or (set (paint f 0 n xs) n (f n)) i d ≡ f i
    go true e r = rw (eqb-true i n e) (get_or-set_same (paint f 0 n xs) n (f n) d (rw (paint-length f 0 n xs) (omega arith)))
    go false e r =
        let ne = eqb-false i n e in
        get_or-set_other (paint f 0 n xs) n i (f n) d ne ∙ r (omega arith) (omega arith)
