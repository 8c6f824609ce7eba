-- Laws of checks in order, whatever they test. Assumes nothing.
use mathlib.Core.Path.{◌≡◌, refl}
use mathlib.Core.Bool.{Bool, true, false, not, ◌&&◌, cond}
use mathlib.Core.List.{List, [], ◌∷◌, ◌++◌}
use Prim.Native.Nat.{ℕ, zero, suc}
use native.Mathlib.Omega.{arith}
use borrow.Author.Tests.{eqb-false, not-true}
use lib.Dec.{eqb}
use Rattle.laws.specs.Refusals.{first_refused}
use Rattle.laws.proofs.Tests.{and_left, and_right}

-- no check refuses with n
abbrev pub never : ℕ → List (Bool × ℕ) → Bool
never n [] = true
never n (check ∷ checks) = not (eqb check.1 n) && never n checks

-- two lists of checks, one after the other
pub in-turn : (xs ys : List (Bool × ℕ)) (later : ℕ) → first_refused (xs ++ ys) later ≡ first_refused xs (first_refused ys later)
unfolding first_refused
in-turn [] ys later = refl
in-turn (x ∷ xs) ys later = rw (in-turn xs ys later) refl

-- where a check refuses, what comes after changes nothing
pub refused-first : (xs : List (Bool × ℕ)) (later : ℕ) → (first_refused xs 0 ≡ 0 → ⊥) → first_refused xs later ≡ first_refused xs 0
unfolding first_refused
refused-first [] later n = absurd (n refl)
refused-first (x ∷ xs) later n = go x.0 n (refused-first xs later)
  where
    go : (t : Bool) → (cond t (first_refused xs 0) x.1 ≡ 0 → ⊥) → ((first_refused xs 0 ≡ 0 → ⊥) → first_refused xs later ≡ first_refused xs 0)
        → cond t (first_refused xs later) x.1 ≡ cond t (first_refused xs 0) x.1
    go true n rest = rest n
    go false n rest = refl

not-number : (n m : ℕ) (rest : Bool) → not (eqb m n) && rest ≡ true → m ≡ n → ⊥
not-number n m rest e = eqb-false m n (not-true (eqb m n) (and_left (not (eqb m n)) rest e))

-- a number that no check has, if it is answered at all, comes after them
pub not-refused : (n : ℕ) (xs : List (Bool × ℕ)) (later : ℕ) → never n xs ≡ true → first_refused xs later ≡ n → later ≡ n
unfolding first_refused
not-refused n [] later e h = h
not-refused n (x ∷ xs) later e h = go x.0 h (not-refused n xs later (and_right (not (eqb x.1 n)) (never n xs) e))
  where
    go : (t : Bool) → cond t (first_refused xs later) x.1 ≡ n → (first_refused xs later ≡ n → later ≡ n) → later ≡ n
    go true h rest = rest h
    go false h rest = absurd (not-number n x.1 (never n xs) e h)

-- the first of some checks, none of which refuses with 0, passes where nothing refuses
pub passes-first : (t : Bool) (n : ℕ) (xs : List (Bool × ℕ)) (later : ℕ) → eqb n 0 ≡ false → first_refused ((t, n) ∷ xs) later ≡ 0 → (t ≡ true) × (first_refused xs later ≡ 0)
unfolding first_refused
passes-first true n xs later e h = (refl, h)
passes-first false n xs later e h = absurd (eqb-false n 0 e h)

-- where nothing refuses, what comes after is answered ..
pub all_pass : (xs : List (Bool × ℕ)) (later : ℕ) → never 0 xs ≡ true → first_refused xs 0 ≡ 0 → first_refused xs later ≡ later
unfolding first_refused
all_pass [] later e h = refl
all_pass (x ∷ xs) later e h = go x.0 h (all_pass xs later (and_right (not (eqb x.1 0)) (never 0 xs) e))
  where
    go : (t : Bool) → cond t (first_refused xs 0) x.1 ≡ 0 → (first_refused xs 0 ≡ 0 → first_refused xs later ≡ later) → cond t (first_refused xs later) x.1 ≡ later
    go true h rest = rest h
    go false h rest = absurd (not-number 0 x.1 (never 0 xs) e h)

-- .. and the other way round: 0 is answered only where nothing refuses
pub none-refused : (xs : List (Bool × ℕ)) (later : ℕ) → never 0 xs ≡ true → first_refused xs later ≡ 0 → first_refused xs 0 ≡ 0
none-refused xs later e h = go (first_refused xs 0) refl
  where
    go : (n : ℕ) → first_refused xs 0 ≡ n → first_refused xs 0 ≡ 0
    go zero d = d
    go (suc n) d = absurd (let same = refused-first xs later (λ z. omega (arith, z, d)) in omega (arith, h, same, d))
