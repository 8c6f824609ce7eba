-- What a step leaves was there: each path that is kept was made, and each that was made comes from a path and a candidate. Assumes nothing.
use mathlib.Core.Path.{◌≡◌, refl, ap, ◌∙◌, subst⁻¹}
use mathlib.Core.Logic.{◌⊎◌, inl, inr}
use mathlib.Core.Bool.{Bool, true, false, cond}
use mathlib.Core.List.Memᴰ.{append_cases}
use mathlib.Core.List.Memᴰ.{cases_cons}
use mathlib.Core.List.Memᴰ.{eq_of_singleton as only}
use mathlib.Core.List.Memᴰ.{head as here}
use mathlib.Core.List.Memᴰ.{not-nil}
use mathlib.Core.List.Memᴰ.{tail as there}
use mathlib.Core.List.{List, [], ◌∷◌, ◌++◌, Memᴰ as Mem}
use Prim.Native.Nat.{ℕ, zero, suc, ◌≤◌}
use native.Mathlib.Omega.{arith}
use borrow.Author.Tests.{eqb-true, leb-true}
use lib.Dec.{eqb, leb}
use lib.IntN.{ℤ, pos}
use lib.ListN.{length, get_or, take, length-take}
use lib.Ieee.{lt}
use Rattle.beam_paths.specs.Path.{Path, Way, way_remaining, way_cost, way_levels, ways_of, ways}
use Rattle.beam_paths.specs.Step.{extended, has, naming, counts_named, reaching, merged, merged_at, key, insert, sorting, kept}
use Rattle.least_cost.specs.Position.{Position}

-- ---- the paths that are kept
take-listed : {A : Type 0} (n : ℕ) (xs : List A) (x : A) → Mem x (take n xs) → Mem x xs
take-listed zero xs x m = absurd (not-nil m)
take-listed (suc n) [] x m = absurd (not-nil m)
take-listed {A} (suc n) (y ∷ xs) x m = go (cases_cons m) (take-listed n xs x)
  where
    go : (x ≡ y) ⊎ Mem x (take n xs) → (Mem x (take n xs) → Mem x xs) → Mem x (y ∷ xs)
    go (inl e) f = here e
    go (inr k) f = there (f k)

insert-listed : (x : Path) (ys : List Path) (z : Path) → Mem z (insert x ys) → (z ≡ x) ⊎ Mem z ys
unfolding insert
insert-listed x [] z m = inl (only m)
insert-listed x (y ∷ ys) z m = go (lt (key x) (key y)) m (insert-listed x ys z)
  where
    behind : (z ≡ y) ⊎ Mem z (insert x ys) → (Mem z (insert x ys) → (z ≡ x) ⊎ Mem z ys) → (z ≡ x) ⊎ Mem z (y ∷ ys)
    behind (inl e) f = inr (here e)
    behind (inr k) f = put (f k)
      where
        put : (z ≡ x) ⊎ Mem z ys → (z ≡ x) ⊎ Mem z (y ∷ ys)
        put (inl e) = inl e
        put (inr n) = inr (there n)

    go : (t : Bool) → Mem z (cond t (x ∷ y ∷ ys) (y ∷ insert x ys)) → (Mem z (insert x ys) → (z ≡ x) ⊎ Mem z ys) → (z ≡ x) ⊎ Mem z (y ∷ ys)
    go true k f = cases_cons k
    go false k f = behind (cases_cons k) f

sorting-listed : (done xs : List Path) (z : Path) → Mem z (sorting done xs) → Mem z done ⊎ Mem z xs
unfolding sorting
sorting-listed done [] z m = inl m
sorting-listed done (x ∷ xs) z m = go (sorting-listed (insert x done) xs z m)
  where
    front : (z ≡ x) ⊎ Mem z done → Mem z done ⊎ Mem z (x ∷ xs)
    front (inl e) = inr (here e)
    front (inr k) = inl k

    go : Mem z (insert x done) ⊎ Mem z xs → Mem z done ⊎ Mem z (x ∷ xs)
    go (inl k) = front (insert-listed x done z k)
    go (inr k) = inr (there k)

pub kept-listed : (xs : List Path) (z : Path) → Mem z (kept xs) → Mem z xs
unfolding kept
kept-listed xs z m = go (leb (length xs) 3) m
  where
    sorted : Mem z [] ⊎ Mem z xs → Mem z xs
    sorted (inl k) = absurd (not-nil k)
    sorted (inr k) = k

    go : (t : Bool) → Mem z (cond t xs (take 3 (sorting [] xs))) → Mem z xs
    go true k = k
    go false k = sorted (sorting-listed [] xs z (take-listed 3 (sorting [] xs) z k))

pub kept-few : (xs : List Path) → length (kept xs) ≤ 3
unfolding kept
kept-few xs = go (leb (length xs) 3) refl
  where
    go : (t : Bool) → leb (length xs) 3 ≡ t → length (cond t xs (take 3 (sorting [] xs))) ≤ 3
    go true e = leb-true (length xs) 3 e
    go false e = omega (arith, length-take 3 (sorting [] xs))

-- ---- the paths that are made, and the counts that are named
pub all-merged : (P : Path → Type 0) (q : Position) (ws : List Way) (ns : List ℕ) → ((n : ℕ) → Mem n ns → P (merged q ws n)) → (z : Path) → Mem z (merged_at q ws ns) → P z
unfolding merged_at
all-merged P q ws [] f z m = absurd (not-nil m)
all-merged P q ws (n ∷ ns) f z m = go (cases_cons m) (all-merged P q ws ns (λ k l. f k (there l)) z)
  where
    go : (z ≡ merged q ws n) ⊎ Mem z (merged_at q ws ns) → (Mem z (merged_at q ws ns) → P z) → P z
    go (inl e) g = subst⁻¹ P e (f n (here refl))
    go (inr k) g = g k

naming-listed : (ns : List ℕ) (n m : ℕ) → Mem m (naming ns n) → Mem m ns ⊎ (m ≡ n)
unfolding naming
naming-listed ns n m k = go (has n ns) k
  where
    last : Mem m ns ⊎ Mem m (n ∷ []) → Mem m ns ⊎ (m ≡ n)
    last (inl l) = inl l
    last (inr l) = inr (only l)

    go : (t : Bool) → Mem m (cond t ns (ns ++ (n ∷ []))) → Mem m ns ⊎ (m ≡ n)
    go true l = inl l
    go false l = last (append_cases ns l)

pub all_named : (P : ℕ → Type 0) (ns : List ℕ) (xs : List Path) → ((n : ℕ) → Mem n ns → P n) → ((x : Path) → Mem x xs → P x.remaining × P (suc x.remaining)) → (n : ℕ) → Mem n (counts_named ns xs) → P n
unfolding counts_named
all_named P ns [] f g n m = f n m
all_named P ns (x ∷ xs) f g n m = all_named P (naming (naming ns x.remaining) (suc x.remaining)) xs both (λ y k. g y (there k)) n m
  where
    one : (k : ℕ) → Mem k ns ⊎ (k ≡ x.remaining) → P k
    one k (inl l) = f k l
    one k (inr e) = subst⁻¹ P e (g x (here refl)).0

    two : (k : ℕ) → Mem k (naming ns x.remaining) ⊎ (k ≡ suc x.remaining) → P k
    two k (inl l) = one k (naming-listed ns x.remaining k l)
    two k (inr e) = subst⁻¹ P e (g x (here refl)).1

    both : (k : ℕ) → Mem k (naming (naming ns x.remaining) (suc x.remaining)) → P k
    both k l = two k (naming-listed (naming ns x.remaining) (suc x.remaining) k l)

-- ---- the ways
ways-of : (P : Way → Type 0) (x : Path) (cs : List ℤ) → ((c : ℤ) → Mem c cs → P (record { path = x; level = c })) → (w : Way) → Mem w (ways_of x cs) → P w
unfolding ways_of
ways-of P x [] f w m = absurd (not-nil m)
ways-of P x (c ∷ cs) f w m = go (cases_cons m) (ways-of P x cs (λ d k. f d (there k)) w)
  where
    go : (w ≡ record { path = x; level = c }) ⊎ Mem w (ways_of x cs) → (Mem w (ways_of x cs) → P w) → P w
    go (inl e) g = subst⁻¹ P e (f c (here refl))
    go (inr k) g = g k

pub all_ways : (P : Way → Type 0) (xs : List Path) (cs : List ℤ) → ((x : Path) → Mem x xs → (c : ℤ) → Mem c cs → P (record { path = x; level = c })) → (w : Way) → Mem w (ways xs cs) → P w
unfolding ways
all_ways P [] cs f w m = absurd (not-nil m)
all_ways P (x ∷ xs) cs f w m = go (append_cases (ways_of x cs) m) (all_ways P xs cs (λ y k. f y (there k)) w)
  where
    go : Mem w (ways_of x cs) ⊎ Mem w (ways xs cs) → (Mem w (ways xs cs) → P w) → P w
    go (inl k) g = ways-of P x cs (f x (here refl)) w k
    go (inr k) g = g k

pub reaching-listed : (n : ℕ) (ws : List Way) (w : Way) → Mem w (reaching n ws) → Mem w ws × (way_remaining w ≡ n)
unfolding reaching
reaching-listed n [] w m = absurd (not-nil m)
reaching-listed n (v ∷ ws) w m = go (eqb (way_remaining v) n) refl m (reaching-listed n ws w)
  where
    later : Mem w ws × (way_remaining w ≡ n) → Mem w (v ∷ ws) × (way_remaining w ≡ n)
    later p = (there p.0, p.1)

    front : way_remaining v ≡ n → (w ≡ v) ⊎ Mem w (reaching n ws) → (Mem w (reaching n ws) → Mem w ws × (way_remaining w ≡ n)) → Mem w (v ∷ ws) × (way_remaining w ≡ n)
    front e (inl k) f = (here k, ap way_remaining k ∙ e)
    front e (inr k) f = later (f k)

    go : (t : Bool) → eqb (way_remaining v) n ≡ t → Mem w (cond t (v ∷ reaching n ws) (reaching n ws)) → (Mem w (reaching n ws) → Mem w ws × (way_remaining w ≡ n)) → Mem w (v ∷ ws) × (way_remaining w ≡ n)
    go true e k f = front (eqb-true (way_remaining v) n e) (cases_cons k) f
    go false e k f = later (f k)

-- ---- a sole candidate
pub sole_listed : (cs : List ℤ) → length cs ≡ 1 → Mem (get_or cs 0 (pos 0)) cs
sole_listed [] e = absurd (omega arith)
sole_listed (c ∷ cs) e = here refl

pub all-extended : (P : Path → Type 0) (q : Position) (c : ℤ) (xs : List Path)
    → ((x : Path) → Mem x xs → P (record { remaining = way_remaining (record { path = x; level = c }); cost = λ p. way_cost q p (record { path = x; level = c }); levels = λ p. way_levels (record { path = x; level = c }) }))
    → (z : Path) → Mem z (extended q c xs) → P z
unfolding extended
all-extended P q c [] f z m = absurd (not-nil m)
all-extended P q c (x ∷ xs) f z m = go (cases_cons m) (all-extended P q c xs (λ y k. f y (there k)) z)
  where
    go : (z ≡ record { remaining = way_remaining (record { path = x; level = c }); cost = λ p. way_cost q p (record { path = x; level = c }); levels = λ p. way_levels (record { path = x; level = c }) }) ⊎ Mem z (extended q c xs)
        → (Mem z (extended q c xs) → P z) → P z
    go (inl e) g = subst⁻¹ P e (f x (here refl))
    go (inr k) g = g k

pub extended-length : (q : Position) (c : ℤ) (xs : List Path) → length (extended q c xs) ≡ length xs
unfolding extended
extended-length q c [] = refl
extended-length q c (x ∷ xs) = ap suc (extended-length q c xs)
