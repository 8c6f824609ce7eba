-- The tests of check 37, run by run. Assumes nothing.
use Prim.Native.Nat.{ℕ, zero, suc, ◌+◌, ◌<◌, ◌≤◌}
use mathlib.Core.Path.{◌≡◌, refl, sym, ap, ◌∙◌}
use mathlib.Core.Bool.{Bool, true, false, not, cond, ◌&&◌, ◌||◌, true≢false}
use mathlib.Core.List.{List, [], ◌∷◌, ◌++◌}
use native.Mathlib.Omega.{arith}
use native.Mathlib.Nat.{not-suc-le-zero}
use borrow.Author.Tests.{ltb-true, lt-ltb, eqb-true, eqb-false, ne_eqb, leb-true, le-leb, not-true}
use lib.Dec.{eqb, leb, ltb}
use lib.ListN.{length}
use Rattle.laws.proofs.Tests.{and_left, and_right}
use Rattle.store_record.specs.Runs.{run, in_order, holds, numbered, others, live, end_of, packed}
use Rattle.store_record.specs.declared.Run.{Run}

pub and_both : (a b : Bool) → a ≡ true → b ≡ true → a && b ≡ true
and_both a b p q = rw (p, q)

pub same_test : (a b : Bool) → (a ≡ true → b ≡ true) → (b ≡ true → a ≡ true) → a ≡ b
same_test true b f g = sym (f refl)
same_test false true f g = absurd (true≢false (sym (g refl)))
same_test false false f g = refl

-- by whether two numbers are equal
pub either : {C : Type 0} (a b : ℕ) → (a ≡ b → C) → ((a ≡ b → ⊥) → C) → C
either {C} a b same other = go (eqb a b) refl
  where
    go : (t : Bool) → eqb a b ≡ t → C
    go true e = same (eqb-true a b e)
    go false e = other (eqb-false a b e)

-- what the three tests say of the first run and of those after it
pub order-head : (end size : ℕ) (x : Run) (xs : List Run) → in_order end size (x ∷ xs) ≡ true → (end ≤ x.start) × ((x.start + x.size ≤ size) × (in_order (x.start + x.size) size xs ≡ true))
unfolding in_order
order-head end size x xs e =
    let two = and_left (leb end x.start && leb (x.start + x.size) size) (in_order (x.start + x.size) size xs) e in (
      leb-true _ _ (and_left (leb end x.start) (leb (x.start + x.size) size) two),
      (
        leb-true _ _ (and_right (leb end x.start) (leb (x.start + x.size) size) two),
        and_right (leb end x.start && leb (x.start + x.size) size) (in_order (x.start + x.size) size xs) e,
      ),
    )

pub number-head : (m : ℕ) (x : Run) (xs : List Run) → numbered m (x ∷ xs) ≡ true → (x.number < m) × ((holds x.number xs ≡ false) × (numbered m xs ≡ true))
unfolding numbered
number-head m x xs e =
    let two = and_left (ltb x.number m && not (holds x.number xs)) (numbered m xs) e in (
      ltb-true _ _ (and_left (ltb x.number m) (not (holds x.number xs)) two),
      (
        not-true _ (and_right (ltb x.number m) (not (holds x.number xs)) two),
        and_right (ltb x.number m && not (holds x.number xs)) (numbered m xs) e,
      ),
    )

-- ---- order

pub order-cons : (end size : ℕ) (x : Run) (xs : List Run) → end ≤ x.start → x.start + x.size ≤ size → in_order (x.start + x.size) size xs ≡ true → in_order end size (x ∷ xs) ≡ true
unfolding in_order
order-cons end size x xs a b e = rw (le-leb end x.start a, le-leb (x.start + x.size) size b) e

pub order-lower : (end low size : ℕ) (xs : List Run) → low ≤ end → in_order end size xs ≡ true → in_order low size xs ≡ true
unfolding in_order
order-lower end low size [] h e = refl
order-lower end low size (x ∷ xs) h e =
    let t = order-head end size x xs e in
    let k = t.0 in
    order-cons low size x xs (omega arith) t.1.0 t.1.1

pub order-others : (k end size : ℕ) (xs : List Run) → in_order end size xs ≡ true → in_order end size (others k xs) ≡ true
unfolding others
order-others k end size [] e = e
order-others k end size (x ∷ xs) e = go (eqb k x.number) (order-head end size x xs e) (order-others k (x.start + x.size) size xs)
  where
    go : (b : Bool) → (end ≤ x.start) × ((x.start + x.size ≤ size) × (in_order (x.start + x.size) size xs ≡ true))
        → (in_order (x.start + x.size) size xs ≡ true → in_order (x.start + x.size) size (others k xs) ≡ true)
        → in_order end size (cond b (others k xs) (x ∷ others k xs)) ≡ true
    go true t f = let a = t.0 in order-lower (x.start + x.size) end size (others k xs) (omega arith) (f t.1.1)
    go false t f = order-cons end size x (others k xs) t.0 t.1.0 (f t.1.1)

pub order-end : (end size : ℕ) (xs : List Run) → end ≤ size → in_order end size xs ≡ true → (end + live xs ≤ end_of end xs) × (end_of end xs ≤ size)
unfolding live end_of
order-end end size [] h e = (omega arith, h)
order-end end size (x ∷ xs) h e =
    let t = order-head end size x xs e in
    let a = t.0 in
    let rest = order-end (x.start + x.size) size xs t.1.0 t.1.1 in
    let b = rest.0 in
    (omega arith, rest.1)

pub order-more : (end size : ℕ) (xs : List Run) (x : Run) → in_order end size xs ≡ true → end_of end xs ≤ x.start → x.start + x.size ≤ size → in_order end size (xs ++ (x ∷ [])) ≡ true
unfolding end_of in_order
order-more end size [] x e a b = order-cons end size x [] a b refl
order-more end size (y ∷ ys) x e a b =
    let t = order-head end size y ys e in
    order-cons end size y (ys ++ (x ∷ [])) t.0 t.1.0 (order-more (y.start + y.size) size ys x t.1.1 a b)

pub order-packed : (at size : ℕ) (xs : List Run) → at + live xs ≤ size → in_order at size (packed at xs) ≡ true
unfolding packed live in_order
order-packed at size [] h = refl
order-packed at size (x ∷ xs) h =
    rw (le-leb at at (omega arith), le-leb (at + x.size) size (omega arith)) (order-packed (at + x.size) size xs (omega arith))

-- ---- numbers

pub number-cons : (m : ℕ) (x : Run) (xs : List Run) → x.number < m → holds x.number xs ≡ false → numbered m xs ≡ true → numbered m (x ∷ xs) ≡ true
unfolding numbered
number-cons m x xs a b e = rw (lt-ltb x.number m a, b) e

-- a number that no run has
pub others-all : (k : ℕ) (xs : List Run) → holds k xs ≡ false → others k xs ≡ xs
unfolding others holds
others-all k [] e = refl
others-all k (x ∷ xs) e = go (eqb k x.number) (others-all k xs) e
  where
    go : (b : Bool) → (holds k xs ≡ false → others k xs ≡ xs) → b || holds k xs ≡ false → cond b (others k xs) (x ∷ others k xs) ≡ x ∷ xs
    go true f e = absurd (true≢false e)
    go false f e = ap (λ (l : List Run). x ∷ l) (f e)

holds-others : (j k : ℕ) (xs : List Run) → holds j xs ≡ false → holds j (others k xs) ≡ false
unfolding others holds
holds-others j k [] e = e
holds-others j k (x ∷ xs) e = go (eqb k x.number) (eqb j x.number) refl (holds-others j k xs) e
  where
    go : (b c : Bool) → eqb j x.number ≡ c → (holds j xs ≡ false → holds j (others k xs) ≡ false) → c || holds j xs ≡ false → holds j (cond b (others k xs) (x ∷ others k xs)) ≡ false
    go b true q f e = absurd (true≢false e)
    go true false q f e = f e
    go false false q f e = rw q (f e)

pub number-others : (m k : ℕ) (xs : List Run) → numbered m xs ≡ true → numbered m (others k xs) ≡ true
unfolding others
number-others m k [] e = e
number-others m k (x ∷ xs) e = go (eqb k x.number) (number-head m x xs e) (number-others m k xs)
  where
    go : (b : Bool) → (x.number < m) × ((holds x.number xs ≡ false) × (numbered m xs ≡ true)) → (numbered m xs ≡ true → numbered m (others k xs) ≡ true)
        → numbered m (cond b (others k xs) (x ∷ others k xs)) ≡ true
    go true t f = f t.1.1
    go false t f = number-cons m x (others k xs) t.0 (holds-others x.number k xs t.1.0) (f t.1.1)

-- taken out, the number is held no more
pub out : (k : ℕ) (xs : List Run) → holds k (others k xs) ≡ false
unfolding others holds
out k [] = refl
out k (x ∷ xs) = go (eqb k x.number) refl (out k xs)
  where
    go : (b : Bool) → eqb k x.number ≡ b → holds k (others k xs) ≡ false → holds k (cond b (others k xs) (x ∷ others k xs)) ≡ false
    go true q e = e
    go false q e = rw q e

holds_more : (j : ℕ) (xs : List Run) (x : Run) → holds j xs ≡ false → (j ≡ x.number → ⊥) → holds j (xs ++ (x ∷ [])) ≡ false
unfolding holds
holds_more j [] x e d = rw (ne_eqb j x.number d)
holds_more j (y ∷ ys) x e d = go (eqb j y.number) e (λ f. holds_more j ys x f d)
  where
    go : (b : Bool) → b || holds j ys ≡ false → (holds j ys ≡ false → holds j (ys ++ (x ∷ [])) ≡ false) → b || holds j (ys ++ (x ∷ [])) ≡ false
    go true e f = absurd (true≢false e)
    go false e f = f e

not-held : (k : ℕ) (y : Run) (ys : List Run) → holds k (y ∷ ys) ≡ false → (y.number ≡ k → ⊥) × (holds k ys ≡ false)
unfolding holds
not-held k y ys e = go (eqb k y.number) refl e
  where
    go : (b : Bool) → eqb k y.number ≡ b → b || holds k ys ≡ false → (y.number ≡ k → ⊥) × (holds k ys ≡ false)
    go true q e = absurd (true≢false e)
    go false q e = ((λ h. eqb-false k y.number q (sym h)), e)

pub number_more : (m : ℕ) (xs : List Run) (x : Run) → numbered m xs ≡ true → x.number < m → holds x.number xs ≡ false → numbered m (xs ++ (x ∷ [])) ≡ true
unfolding numbered holds
number_more m [] x e a b = rw (lt-ltb x.number m a)
number_more m (y ∷ ys) x e a b =
    let t = number-head m y ys e in
    let n = not-held x.number y ys b in
    number-cons m y (ys ++ (x ∷ [])) t.0 (holds_more y.number ys x t.1.0 n.0) (number_more m ys x t.1.1 a n.1)

holds-packed : (j at : ℕ) (xs : List Run) → holds j (packed at xs) ≡ holds j xs
unfolding packed holds
holds-packed j at [] = refl
holds-packed j at (x ∷ xs) = rw (holds-packed j (at + x.size) xs)

pub number-packed : (m at : ℕ) (xs : List Run) → numbered m (packed at xs) ≡ numbered m xs
unfolding packed numbered
number-packed m at [] = refl
number-packed m at (x ∷ xs) = rw (holds-packed x.number (at + x.size) xs, number-packed m (at + x.size) xs)

pub packed-held : (j at : ℕ) (xs : List Run) → holds j xs ≡ false → holds j (packed at xs) ≡ false
packed-held j at xs e = holds-packed j at xs ∙ e

pub packed-length : (at : ℕ) (xs : List Run) → length (packed at xs) ≡ length xs
unfolding packed
packed-length at [] = refl
packed-length at (x ∷ xs) = ap suc (packed-length (at + x.size) xs)

pub packed-end : (at : ℕ) (xs : List Run) → end_of at (packed at xs) ≡ at + live xs
unfolding packed end_of live
packed-end at [] = omega arith
packed-end at (x ∷ xs) = packed-end (at + x.size) xs ∙ omega arith

-- ---- at most m numbers lie below m

others-length : (m k : ℕ) (xs : List Run) → numbered m xs ≡ true → length xs ≤ suc (length (others k xs))
unfolding others
others-length m k [] e = omega arith
others-length m k (x ∷ xs) e = go (eqb k x.number) refl (number-head m x xs e) (others-length m k xs)
  where
    go : (b : Bool) → eqb k x.number ≡ b → (x.number < m) × ((holds x.number xs ≡ false) × (numbered m xs ≡ true))
        → (numbered m xs ≡ true → length xs ≤ suc (length (others k xs))) → suc (length xs) ≤ suc (length (cond b (others k xs) (x ∷ others k xs)))
    go true q t f =
        let same : others k xs ≡ xs = others-all k xs (rw (eqb-true k x.number q) t.1.0) in
        rw same (omega arith)
    go false q t f = let l = f t.1.1 in omega arith

-- without the largest number, all lie below one less
others_below : (m : ℕ) (xs : List Run) → numbered (suc m) xs ≡ true → numbered m (others m xs) ≡ true
unfolding others numbered
others_below m [] e = refl
others_below m (x ∷ xs) e = go (eqb m x.number) refl (number-head (suc m) x xs e) (others_below m xs)
  where
    go : (b : Bool) → eqb m x.number ≡ b → (x.number < suc m) × ((holds x.number xs ≡ false) × (numbered (suc m) xs ≡ true))
        → (numbered (suc m) xs ≡ true → numbered m (others m xs) ≡ true) → numbered m (cond b (others m xs) (x ∷ others m xs)) ≡ true
    go true q t f = f t.1.1
    go false q t f =
        let d = eqb-false m x.number q in
        let a = t.0 in
        number-cons m x (others m xs) (omega arith) (holds-others x.number m xs t.1.0) (f t.1.1)

few : (m : ℕ) (xs : List Run) → numbered m xs ≡ true → length xs ≤ m
few zero [] e = omega arith
few zero (x ∷ xs) e = absurd (not-suc-le-zero (number-head zero x xs e).0)
few (suc m) xs e =
    let rest = few m (others m xs) (others_below m xs e) in
    let most = others-length (suc m) m xs e in
    omega arith

-- one number more leaves place for it
pub fewer : (m k : ℕ) (xs : List Run) → k < m → numbered m xs ≡ true → holds k xs ≡ false → length xs < m
fewer m k xs h e n = few m (run k 0 0 ∷ xs) (number-cons m (run k 0 0) xs h n e)

pub others-most : (k : ℕ) (xs : List Run) → length (others k xs) ≤ length xs
unfolding others
others-most k [] = omega arith
others-most k (x ∷ xs) = go (eqb k x.number) (others-most k xs)
  where
    go : (b : Bool) → length (others k xs) ≤ length xs → length (cond b (others k xs) (x ∷ others k xs)) ≤ suc (length xs)
    go true h = omega arith
    go false h = omega arith
