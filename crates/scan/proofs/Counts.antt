-- Counting the entries of a list. Assumes nothing.
use mathlib.Core.Path.{◌≡◌, refl, sym, ◌∙◌, ap}
use mathlib.Core.Bool.{Bool, true, false, true≢false}
use mathlib.Core.List.{List, [], ◌∷◌, ◌++◌}
use Prim.Native.Nat.{ℕ, zero, suc, ◌+◌, ◌≤◌, ◌<◌, zero-le, suc-le-suc}
use native.Mathlib.Nat.{suc-add, add-suc, not-suc-le-zero, le_of_suc-le-suc}
use native.Mathlib.Omega.{arith}
use borrow.Author.Tests.{eq-eqb, ne_eqb, eqb-true, ltb-true, ltb-false}
use lib.Dec.{eqb, ltb, lit≤}
use lib.ListN.{length, get_or, take, drop, take-append-drop}
use lib.Seq.{take-suc, length-take-le, get_or-take}
use Rattle.laws.proofs.Tests.{and_left, and_right}
use Rattle.scan.specs.Scan.{count_of, once_below}

pub count-here : (i x : ℕ) (xs : List ℕ) → x ≡ i → count_of i (x ∷ xs) ≡ suc (count_of i xs)
unfolding count_of
count-here i x xs e = rw (eq-eqb i x (sym e)) (omega arith)

pub count-other : (i x : ℕ) (xs : List ℕ) → (x ≡ i → ⊥) → count_of i (x ∷ xs) ≡ count_of i xs
unfolding count_of
count-other i x xs n = rw (ne_eqb i x (λ e. n (sym e))) (omega arith)

pub count-empty : (i : ℕ) → count_of i (take 0 []) ≡ 0
unfolding count_of
count-empty i = refl

count-nil : (i : ℕ) (t : List ℕ) → count_of i t ≡ count_of i [] + count_of i t
unfolding count_of
count-nil i t = omega arith

-- by whether two numbers are equal
pub either : {C : Type 0} (a b : ℕ) → (a ≡ b → C) → ((a ≡ b → ⊥) → C) → C
either {C} a b same other = go (eqb a b) refl
  where
    go : (t : Bool) → eqb a b ≡ t → C
    go true e = same (eqb-true a b e)
    go false e = other (λ p. true≢false (sym (eq-eqb a b p) ∙ e))

-- how many entries lie below n: the sum of the counts of 0 to n − 1
pub total : ℕ → List ℕ → ℕ
total zero s = 0
total (suc n) s = total n s + count_of n s

total-nil : (n : ℕ) → total n [] ≡ 0
unfolding total count_of
total-nil zero = refl
total-nil (suc n) = rw (total-nil n)

total-out : (n x : ℕ) (xs : List ℕ) → n ≤ x → total n (x ∷ xs) ≡ total n xs
unfolding total
total-out zero x xs h = refl
total-out (suc n) x xs h = rw (total-out n x xs (omega arith), count-other n x xs (λ e. omega arith))

total-in : (n x : ℕ) (xs : List ℕ) → x < n → total n (x ∷ xs) ≡ suc (total n xs)
unfolding total
total-in zero x xs h = absurd (not-suc-le-zero h)
total-in (suc n) x xs h =
    either x n (λ e. rw (total-out n x xs (omega arith), count-here n x xs e, add-suc))
    (λ d. rw (total-in n x xs (omega arith), count-other n x xs d, suc-add))

-- by whether a number is below another
pub split : {C : Type 0} (a b : ℕ) → (a < b → C) → (b ≤ a → C) → C
split {C} a b low high = go (ltb a b) refl
  where
    go : (t : Bool) → ltb a b ≡ t → C
    go true e = low (ltb-true a b e)
    go false e = high (ltb-false a b e)

total-most : (n : ℕ) (s : List ℕ) → total n s ≤ length s
total-most n [] = rw (total-nil n) (lit≤ tt)
total-most n (x ∷ xs) =
    let rest = total-most n xs in
    split x n (λ h. omega (arith, total-in n x xs h)) (λ h. omega (arith, total-out n x xs h))

-- an entry that is not below n is missing from the sum
pub total-short : (n : ℕ) (s : List ℕ) (k : ℕ) → k < length s → n ≤ get_or s k 0 → total n s < length s
total-short n [] k h w = absurd (not-suc-le-zero h)
total-short n (x ∷ xs) zero h w = omega (arith, total-out n x xs w, total-most n xs)
total-short n (x ∷ xs) (suc k) h w =
    let rest = total-short n xs k (le_of_suc-le-suc h) w in
    split x n (λ h. omega (arith, total-in n x xs h)) (λ h. omega (arith, total-out n x xs h))

pub total-full : (n : ℕ) (s : List ℕ) → ((k : ℕ) → k < length s → get_or s k 0 < n) → total n s ≡ length s
total-full n [] below = total-nil n
total-full n (x ∷ xs) below =
    total-in n x xs (below zero (suc-le-suc zero-le)) ∙ ap suc (total-full n xs (λ k h. below (suc k) (suc-le-suc h)))

pub total-ones : (n : ℕ) (s : List ℕ) → ((i : ℕ) → i < n → count_of i s ≡ 1) → total n s ≡ n
unfolding total
total-ones zero s ones = refl
total-ones (suc n) s ones = omega (arith, total-ones n s (λ i h. ones i (omega arith)), ones n (omega arith))

total-many : (n : ℕ) (s : List ℕ) → ((i : ℕ) → i < n → 1 ≤ count_of i s) → n ≤ total n s
unfolding total
total-many zero s many = lit≤ tt
total-many (suc n) s many = omega (arith, total-many n s (λ i h. many i (omega arith)), many n (omega arith))

-- counts of at least 1 that add up to n are all 1
pub once-all : (n : ℕ) (s : List ℕ) → ((i : ℕ) → i < n → 1 ≤ count_of i s) → total n s ≡ n → once_below n s ≡ true
unfolding total once_below
once-all zero s many e = refl
once-all (suc n) s many e =
    let less = total-many n s (λ i h. many i (omega arith)) in
    let one = many n (omega arith) in
    rw (once-all n s (λ i h. many i (omega arith)) (omega arith)) (eq-eqb (count_of n s) 1 (omega arith))

total-few : (n : ℕ) (s : List ℕ) → ((i : ℕ) → i < n → count_of i s ≤ 1) → total n s ≤ n
unfolding total
total-few zero s few = lit≤ tt
total-few (suc n) s few = omega (arith, total-few n s (λ i h. few i (omega arith)), few n (omega arith))

-- and so are counts of at most 1
pub few_ones : (n : ℕ) (s : List ℕ) → ((i : ℕ) → i < n → count_of i s ≤ 1) → total n s ≡ n → (i : ℕ) → i < n → count_of i s ≡ 1
unfolding total
few_ones zero s few e i h = absurd (not-suc-le-zero h)
few_ones (suc n) s few e i h =
    let less = total-few n s (λ i l. few i (omega arith)) in
    let one = few n (omega arith) in
    either i n (λ p. rw p (omega arith)) (λ d. few_ones n s (λ i l. few i (omega arith)) (omega arith) i (omega arith))

pub once-at : (n : ℕ) (s : List ℕ) → once_below n s ≡ true → (i : ℕ) → i < n → count_of i s ≡ 1
unfolding once_below
once-at zero s e i h = absurd (not-suc-le-zero h)
once-at (suc n) s e i h =
    either i n (λ p. rw p (eqb-true (count_of n s) 1 (and_right (once_below n s) (eqb (count_of n s) 1) e)))
    (λ d. once-at n s (and_left (once_below n s) (eqb (count_of n s) 1) e) i (omega arith))

pub count-append : (i : ℕ) (s t : List ℕ) → count_of i (s ++ t) ≡ count_of i s + count_of i t
count-append i [] t = count-nil i t
count-append i (x ∷ xs) t =
    let rest = count-append i xs t in
    either x i (λ e. rw (count-here i x (xs ++ t) e, count-here i x xs e, rest, suc-add))
    (λ d. rw (count-other i x (xs ++ t) d, count-other i x xs d, rest))

pub count-take-most : (i k : ℕ) (s : List ℕ) → count_of i (take k s) ≤ count_of i s
count-take-most i k s =
    omega (arith, ap (count_of i) (take-append-drop k s), count-append i (take k s) (drop k s))

-- one entry more
pub count-next-here : (i k : ℕ) (s : List ℕ) → k < length s → get_or s k 0 ≡ i → count_of i (take (suc k) s) ≡ suc (count_of i (take k s))
unfolding count_of
count-next-here i k s h e = rw (take-suc s k 0 h, count-append, eq-eqb i (get_or s k 0) (sym e)) (omega arith)

pub count-next-other : (i k : ℕ) (s : List ℕ) → k < length s → (get_or s k 0 ≡ i → ⊥) → count_of i (take (suc k) s) ≡ count_of i (take k s)
unfolding count_of
count-next-other i k s h d = rw (take-suc s k 0 h, count-append, ne_eqb i (get_or s k 0) (λ e. d (sym e))) (omega arith)

pub count-some : (i k : ℕ) (s : List ℕ) → k < length s → get_or s k 0 ≡ i → 1 ≤ count_of i s
count-some i k s h e = omega (arith, count-next-here i k s h e, count-take-most i (suc k) s)

-- an entry that stands at two places counts twice
pub count-two : (i j k : ℕ) (s : List ℕ) → j < k → k < length s → get_or s j 0 ≡ i → get_or s k 0 ≡ i → 2 ≤ count_of i s
count-two i j k s h l p q =
    let first = count-some i j (take k s) (rw (length-take-le k s (omega arith)) h) (get_or-take k s j 0 h ∙ p) in
    omega (arith, count-next-here i k s l q, count-take-most i (suc k) s)
