-- What is tried at a position is what is listed: the order of trial leaves no candidate out and adds none. Assumes nothing.
use mathlib.Core.Path.{◌≡◌, refl, sym, ap, ◌∙◌, subst, subst⁻¹}
use mathlib.Core.Logic.{◌⊎◌, inl, inr}
use Prim.Native.Nat.{ℕ, zero, suc, ◌≤◌}
use native.Mathlib.Omega.{arith}
use mathlib.Core.Bool.{Bool, true, false, not, ◌||◌, cond}
use mathlib.Core.List.Memᴰ.{append_cases}
use mathlib.Core.List.Memᴰ.{append_left}
use mathlib.Core.List.Memᴰ.{append_right}
use mathlib.Core.List.Memᴰ.{cases_cons}
use mathlib.Core.List.Memᴰ.{cast}
use mathlib.Core.List.Memᴰ.{eq_of_singleton as only}
use mathlib.Core.List.Memᴰ.{head as here}
use mathlib.Core.List.Memᴰ.{not-nil}
use mathlib.Core.List.Memᴰ.{tail as there}
use mathlib.Core.List.{List, [], ◌∷◌, ◌++◌, Memᴰ as Mem}
use lib.IntN.{ℤ, pos, negsuc}
use lib.Dec.{T, eqb}
use Rattle.least_cost.specs.Position.{nz}
use Rattle.least_cost.specs.Search.{nonzeros, has_zero, trial}

-- ---- an example: 0, 3 and 2 are tried as 3, 2 and 0
zero-after : trial (pos 0 ∷ pos 3 ∷ pos 2 ∷ []) ≡ pos 3 ∷ pos 2 ∷ pos 0 ∷ []
unfolding trial nonzeros has_zero nz
zero-after = refl

-- ---- a level is 0, or counts 1
pub nz-le : (c : ℤ) → nz c ≤ 1
unfolding nz
nz-le (pos zero) = omega arith
nz-le (pos (suc n)) = omega arith
nz-le (negsuc n) = omega arith

is_zero : ℤ → Bool
is_zero c = eqb (nz c) 0

is-zero : (c : ℤ) → T (is_zero c) → c ≡ pos 0
unfolding is_zero nz
is-zero (pos zero) h = refl
is-zero (pos (suc n)) h = absurd h
is-zero (negsuc n) h = absurd h

counts-one : (c : ℤ) → T (not (is_zero c)) → nz c ≡ 1
unfolding is_zero nz
counts-one (pos zero) h = absurd h
counts-one (pos (suc n)) h = refl
counts-one (negsuc n) h = refl

one_not_zero : (c : ℤ) → nz c ≡ 1 → T (not (is_zero c))
unfolding is_zero
one_not_zero c e = subst⁻¹ (λ (z : ℕ). T (not (eqb z 0))) e tt

-- ---- what is tried is listed
pub nonzeros-listed : (cs : List ℤ) (c : ℤ) → Mem c (nonzeros cs) → Mem c cs
unfolding nonzeros is_zero
nonzeros-listed [] c m = m
nonzeros-listed (d ∷ cs) c m = go (is_zero d) (nonzeros-listed cs c) m
  where
    front : (c ≡ d) ⊎ Mem c (nonzeros cs) → (Mem c (nonzeros cs) → Mem c cs) → Mem c (d ∷ cs)
    front (inl e) k = here e
    front (inr n) k = there (k n)

    go : (b : Bool) → (Mem c (nonzeros cs) → Mem c cs) → Mem c (cond b (nonzeros cs) (d ∷ nonzeros cs)) → Mem c (d ∷ cs)
    go true k n = there (k n)
    go false k n = front (cases_cons n) k

zero-listed : (cs : List ℤ) → T (has_zero cs) → Mem (pos 0) cs
unfolding has_zero is_zero
zero-listed [] h = absurd h
zero-listed (d ∷ cs) h = go (is_zero d) (is-zero d) (zero-listed cs) h
  where
    go : (b : Bool) → (T b → d ≡ pos 0) → (T (has_zero cs) → Mem (pos 0) cs) → T (b || has_zero cs) → Mem (pos 0) (d ∷ cs)
    go true e k t = here (sym (e tt))
    go false e k t = there (k t)

pub trial-listed : (cs : List ℤ) (c : ℤ) → Mem c (trial cs) → Mem c cs
unfolding trial
trial-listed cs c m = go (append_cases (nonzeros cs) m)
  where
    last : (b : Bool) → (T b → Mem (pos 0) cs) → Mem c (cond b (pos 0 ∷ []) []) → Mem c cs
    last true k n = cast (only n) (k tt)
    last false k n = absurd (not-nil n)

    go : Mem c (nonzeros cs) ⊎ Mem c (cond (has_zero cs) (pos 0 ∷ []) []) → Mem c cs
    go (inl n) = nonzeros-listed cs c n
    go (inr n) = last (has_zero cs) (zero-listed cs) n

-- ---- what is listed is tried
listed-nonzero : (cs : List ℤ) (c : ℤ) → Mem c cs → T (not (is_zero c)) → Mem c (nonzeros cs)
unfolding nonzeros is_zero
listed-nonzero [] c m h = m
listed-nonzero (d ∷ cs) c m h = go (is_zero d) (λ (e : c ≡ d). subst (λ (z : ℤ). T (not (is_zero z))) e h) (listed-nonzero cs c) (cases_cons m)
  where
    go : (b : Bool) → (c ≡ d → T (not b)) → (Mem c cs → T (not (is_zero c)) → Mem c (nonzeros cs)) → (c ≡ d) ⊎ Mem c cs → Mem c (cond b (nonzeros cs) (d ∷ nonzeros cs))
    go true e k (inl p) = absurd (e p)
    go true e k (inr n) = k n h
    go false e k (inl p) = here p
    go false e k (inr n) = there (k n h)

listed-zero : (cs : List ℤ) (c : ℤ) → Mem c cs → T (is_zero c) → T (has_zero cs)
unfolding has_zero is_zero
listed-zero [] c m h = absurd (not-nil m)
listed-zero (d ∷ cs) c m h = go (is_zero d) (λ (e : c ≡ d). subst (λ (z : ℤ). T (is_zero z)) e h) (listed-zero cs c) (cases_cons m)
  where
    go : (b : Bool) → (c ≡ d → T b) → (Mem c cs → T (is_zero c) → T (has_zero cs)) → (c ≡ d) ⊎ Mem c cs → T (b || has_zero cs)
    go true e k n = tt
    go false e k (inl p) = absurd (e p)
    go false e k (inr n) = k n h

pub listed-trial : (cs : List ℤ) (c : ℤ) → Mem c cs → Mem c (trial cs)
unfolding trial is_zero
listed-trial cs c m = go (is_zero c) (is-zero c) (listed-zero cs c m) (listed-nonzero cs c m)
  where
    last : (b : Bool) → T b → c ≡ pos 0 → Mem c (cond b (pos 0 ∷ []) [])
    last true t e = here e
    last false t e = absurd t

    go : (b : Bool) → (T b → c ≡ pos 0) → (T b → T (has_zero cs)) → (T (not b) → Mem c (nonzeros cs)) → Mem c (nonzeros cs ++ cond (has_zero cs) (pos 0 ∷ []) [])
    go true z h n = append_right (nonzeros cs) (last (has_zero cs) (h tt) (z tt))
    go false z h n = append_left (cond (has_zero cs) (pos 0 ∷ []) []) (n tt)

-- ---- 0 comes last
pub nonzeros-count : (cs : List ℤ) (c : ℤ) → Mem c (nonzeros cs) → nz c ≡ 1
unfolding nonzeros is_zero
nonzeros-count [] c m = absurd (not-nil m)
nonzeros-count (d ∷ cs) c m = go (is_zero d) (counts-one d) (nonzeros-count cs c) m
  where
    front : nz d ≡ 1 → (Mem c (nonzeros cs) → nz c ≡ 1) → (c ≡ d) ⊎ Mem c (nonzeros cs) → nz c ≡ 1
    front o k (inl e) = ap nz e ∙ o
    front o k (inr n) = k n

    go : (b : Bool) → (T (not b) → nz d ≡ 1) → (Mem c (nonzeros cs) → nz c ≡ 1) → Mem c (cond b (nonzeros cs) (d ∷ nonzeros cs)) → nz c ≡ 1
    go true o k n = k n
    go false o k n = front (o tt) k (cases_cons n)

-- in a list that begins with xs, all nonzero, what stands before a 0 has all of xs
before-zero : (xs zs before after : List ℤ) (z : ℤ) → ((x : ℤ) → Mem x xs → nz x ≡ 1) → nz z ≡ 0 → xs ++ zs ≡ before ++ (z ∷ after) → (c : ℤ) → Mem c xs → Mem c before
before-zero [] zs before after z o e s c m = absurd (not-nil m)
before-zero (x ∷ xs) zs [] after z o e s c m = absurd (clash (ap nz h))
  where
    h : x ≡ z
    h = cc

    clash : nz x ≡ nz z → ⊥
    clash k = let one : nz x ≡ 1 = o x (here refl) in omega arith
before-zero (x ∷ xs) zs (b ∷ before) after z o e s c m = front (cases_cons m) (before-zero xs zs before after z (λ y n. o y (there n)) e t c)
  where
    h : x ≡ b
    h = cc

    t : xs ++ zs ≡ before ++ (z ∷ after)
    t = cc

    front : (c ≡ x) ⊎ Mem c xs → (Mem c xs → Mem c before) → Mem c (b ∷ before)
    front (inl p) k = here (p ∙ h)
    front (inr n) k = there (k n)

pub nonzero-before : (cs before after : List ℤ) (z : ℤ) → nz z ≡ 0 → trial cs ≡ before ++ (z ∷ after) → (c : ℤ) → Mem c cs → nz c ≡ 1 → Mem c before
unfolding trial
nonzero-before cs before after z e s c m o =
    before-zero (nonzeros cs) (cond (has_zero cs) (pos 0 ∷ []) []) before after z (nonzeros-count cs) e s c (listed-nonzero cs c m (one_not_zero c o))
