-- The counts that are tried: each from the fewest on, in ascending order. Assumes nothing.
use mathlib.Core.Path.{◌≡◌, sym, subst, subst⁻¹}
use mathlib.Core.Logic.{◌⊎◌, inl, inr}
use Prim.Native.Nat.{ℕ, zero, suc, ◌+◌, ◌≤◌, ◌<◌}
use native.Mathlib.Nat.{eq-or-lt_of_le}
use native.Mathlib.Omega.{arith}
use mathlib.Core.List.Memᴰ.{append_cases}
use mathlib.Core.List.Memᴰ.{cases_cons}
use mathlib.Core.List.Memᴰ.{head as here}
use mathlib.Core.List.Memᴰ.{not-nil}
use mathlib.Core.List.Memᴰ.{tail as there}
use mathlib.Core.List.{List, [], ◌∷◌, ◌++◌, Memᴰ as Mem}
use Rattle.least_cost.specs.Search.{up_from}

-- n is one of the k counts from m on
pub record Between (m k n : ℕ) : Type 0 where
  pub from : m ≤ n
  pub under : n < m + k

pub tried-between : (m k n : ℕ) → Mem n (up_from m k) → Between m k n
unfolding up_from
tried-between m zero n h = absurd (not-nil h)
tried-between m (suc k) n h = go (cases_cons h) (tried-between (suc m) k n)
  where
    go : (n ≡ m) ⊎ Mem n (up_from (suc m) k) → (Mem n (up_from (suc m) k) → Between (suc m) k n) → Between m (suc k) n
    go (inl e) f = record { from = omega arith; under = omega arith }
    go (inr i) f = let b = f i in record { from = omega arith; under = omega arith }

pub between-tried : (m k n : ℕ) → Between m k n → Mem n (up_from m k)
unfolding up_from
between-tried m zero n b = absurd (none b.from b.under)
  where
    none : m ≤ n → n < m + 0 → ⊥
    none h l = omega arith
between-tried m (suc k) n b = go (eq-or-lt_of_le b.from) (between-tried (suc m) k n)
  where
    go : (m ≡ n) ⊎ (m < n) → (Between (suc m) k n → Mem n (up_from (suc m) k)) → Mem n (m ∷ up_from (suc m) k)
    go (inl e) f = here (sym e)
    go (inr l) f = there (f (record { from = l; under = omega arith }))

-- what stands after n is larger
larger-after : (m k n : ℕ) (xs ys : List ℕ) → up_from m k ≡ xs ++ (n ∷ ys) → (x : ℕ) → Mem x ys → n < x
unfolding up_from
larger-after m zero n [] ys e x h = absurd (nil-cons e)
  where
    nil-cons : ◌≡◌ {A = List ℕ} [] (n ∷ ys) → ⊥
    nil-cons e = let z : ◌≡◌ {A = ℕ} 0 1 = cc in omega arith
larger-after m zero n (y ∷ xs) ys e x h = absurd (nil-cons e)
  where
    nil-cons : ◌≡◌ {A = List ℕ} [] (y ∷ (xs ++ (n ∷ ys))) → ⊥
    nil-cons e = let z : ◌≡◌ {A = ℕ} 0 1 = cc in omega arith
larger-after m (suc k) n [] ys e x h =
    let p : m ≡ n = cc in
    let q : up_from (suc m) k ≡ ys = cc in
    let b = tried-between (suc m) k x (subst⁻¹ (λ (l : List ℕ). Mem x l) q h) in
    omega arith
larger-after m (suc k) n (y ∷ xs) ys e x h =
    let q : up_from (suc m) k ≡ xs ++ (n ∷ ys) = cc in
    larger-after (suc m) k n xs ys q x h

-- so what is smaller stands before
pub smaller_before : (m k n : ℕ) (xs ys : List ℕ) → up_from m k ≡ xs ++ (n ∷ ys) → (x : ℕ) → Mem x (up_from m k) → x < n → Mem x xs
smaller_before m k n xs ys e x h l = go (append_cases xs (subst (λ (z : List ℕ). Mem x z) e h))
  where
    same : x ≡ n → ⊥
    same p = omega arith

    after : n < x → ⊥
    after p = omega arith

    rest : (x ≡ n) ⊎ Mem x ys → Mem x xs
    rest (inl p) = absurd (same p)
    rest (inr i) = absurd (after (larger-after m k n xs ys e x i))

    go : Mem x xs ⊎ Mem x (n ∷ ys) → Mem x xs
    go (inl i) = i
    go (inr i) = rest (cases_cons i)
