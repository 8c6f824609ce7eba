-- Lists filled from the front with f 0, f 1 and so on, one store a turn, and lists copied whole. Assumes nothing.
use mathlib.Core.Path.{◌≡◌, refl, sym, ap, subst, ◌∙◌}
use mathlib.Core.List.{List, [], ◌∷◌, ◌++◌}
use Prim.Native.Nat.{ℕ, zero, suc, ◌+◌, ◌-◌, ◌<◌, ◌≤◌}
use native.Mathlib.Nat.{not-suc-le-zero, le_of_suc-le-suc, le_antisymm}
use native.Mathlib.Numerals.{add-one}
use native.Mathlib.Omega.{arith}
use lib.ListN.{length, set, drop, take, get_or}
use Rattle.std.proofs.lemmas.List.{get_or-drop, length-drop}
use Rattle.block_file.specs.Word.{listed, bytes_from}

pub fill_none : {A : Type 0} (f : ℕ → A) (d : List A) → d ≡ listed f 0 ++ drop 0 d
unfolding listed
fill_none f d = refl

fill_suc : {A : Type 0} (f : ℕ → A) (n : ℕ) (d : List A) → n < length d → set (listed f n ++ drop n d) n (f n) ≡ listed f (suc n) ++ drop (suc n) d
unfolding listed
fill_suc f n [] l = absurd (not-suc-le-zero l)
fill_suc f zero (x ∷ d) l = refl
fill_suc {A} f (suc n) (x ∷ d) l = ap (λ (t : List A). f 0 ∷ t) (fill_suc (λ i. f (suc i)) n d (le_of_suc-le-suc l))

-- after n stores, one more
pub fill_more : {A : Type 0} {s : List A} (f : ℕ → A) (n : ℕ) (d : List A) {v : A} → n < length d → v ≡ f n → s ≡ listed f n ++ drop n d → set s n v ≡ listed f (n + 1) ++ drop (n + 1) d
fill_more {A} {s} f n d {v} l h e =
    ap (λ (t : List A). set t n v) e
    ∙ ap (λ (w : A). set (listed f n ++ drop n d) n w) h
    ∙ subst (λ (k : ℕ). set (listed f n ++ drop n d) n (f n) ≡ listed f k ++ drop k d) (sym (add-one n)) (fill_suc f n d l)

fill-whole : {A : Type 0} (f : ℕ → A) (d : List A) → listed f (length d) ++ drop (length d) d ≡ listed f (length d)
unfolding listed
fill-whole f [] = refl
fill-whole {A} f (x ∷ d) = ap (λ (t : List A). f 0 ∷ t) (fill-whole (λ i. f (suc i)) d)

-- after the last
pub filled : {A : Type 0} {s : List A} (f : ℕ → A) (n : ℕ) (d : List A) → n ≤ length d → length d ≤ n → s ≡ listed f n ++ drop n d → s ≡ listed f (length d)
filled {A} {s} f n d a b e = subst (λ (k : ℕ). s ≡ listed f k ++ drop k d) (le_antisymm a b) e ∙ fill-whole f d

-- ---- a list that is copied whole
listed-same : {A : Type 0} (f g : ℕ → A) (n : ℕ) → ((i : ℕ) → f i ≡ g i) → listed f n ≡ listed g n
unfolding listed
listed-same f g zero e = refl
listed-same f g (suc n) e = rw (e 0) (ap (λ t. g 0 ∷ t) (listed-same (λ i. f (suc i)) (λ i. g (suc i)) n (λ i. e (suc i))))

front : (n : ℕ) (bytes : List ℕ) → n ≤ length bytes → take n bytes ≡ listed (λ i. get_or bytes i 0) n
unfolding listed
front zero bytes h = refl
front (suc n) [] h = absurd (not-suc-le-zero h)
front (suc n) (x ∷ bytes) h = ap (λ (t : List ℕ). x ∷ t) (front n bytes (le_of_suc-le-suc h))

pub copied : (start n : ℕ) (bytes : List ℕ) → start + n ≤ length bytes → take (start + n - start) (drop start bytes) ≡ bytes_from bytes start n
copied start n bytes h =
    let whole : start + n - start ≡ n = omega arith in
    rw whole (front n (drop start bytes) (rw (length-drop start bytes) (omega (arith, h))) ∙ listed-same _ _ n (λ i. get_or-drop start bytes i 0))
