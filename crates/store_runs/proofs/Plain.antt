-- The list of entries is a plain map: what was put is found, other numbers are not touched, and what was dropped is gone. Assumes nothing.
use Prim.Native.Nat.{ℕ}
use mathlib.Core.Path.{◌≡◌, refl, sym, ◌∙◌}
use mathlib.Core.Bool.{Bool, true, false, cond, ◌||◌, true≢false}
use mathlib.Core.List.{List, [], ◌∷◌, ◌++◌}
use borrow.Author.Tests.{eqb-true, eq-eqb, ne_eqb}
use lib.Dec.{eqb}
use Rattle.store_map.specs.Map.{Entry, entry, held, lookup, without, done}
use Rattle.store_map.specs.Map as Map

gone : (k : ℕ) (m : List Entry) → held k (without k m) ≡ false
unfolding held without
gone k [] = refl
gone k (e ∷ m) = go (eqb k e.number) refl (gone k m)
  where
    go : (b : Bool) → eqb k e.number ≡ b → held k (without k m) ≡ false → held k (cond b (without k m) (e ∷ without k m)) ≡ false
    go true q h = h
    go false q h = rw q h

lookup-last : (k : ℕ) (ts : List ℕ) (m : List Entry) → held k m ≡ false → lookup k (m ++ (entry k ts ∷ [])) ≡ ts
unfolding held lookup
lookup-last k ts [] h = rw (eq-eqb k k refl)
lookup-last k ts (e ∷ m) h = go (eqb k e.number) h (lookup-last k ts m)
  where
    go : (b : Bool) → b || held k m ≡ false → (held k m ≡ false → lookup k (m ++ (entry k ts ∷ [])) ≡ ts) → cond b e.tokens (lookup k (m ++ (entry k ts ∷ []))) ≡ ts
    go true h f = absurd (true≢false h)
    go false h f = f h

-- a number other than k
module _ (j k : ℕ) (d : j ≡ k → ⊥) where
  lookup-without : (m : List Entry) → lookup j (without k m) ≡ lookup j m
  unfolding lookup without
  lookup-without [] = refl
  lookup-without (e ∷ m) = go (eqb k e.number) refl (lookup-without m)
    where
      go : (b : Bool) → eqb k e.number ≡ b → lookup j (without k m) ≡ lookup j m
          → lookup j (cond b (without k m) (e ∷ without k m)) ≡ cond (eqb j e.number) e.tokens (lookup j m)
      go true q h = rw (ne_eqb j e.number (λ s. d (s ∙ sym (eqb-true k e.number q)))) h
      go false q h = rw h

  held-without : (m : List Entry) → held j (without k m) ≡ held j m
  unfolding held without
  held-without [] = refl
  held-without (e ∷ m) = go (eqb k e.number) refl (held-without m)
    where
      go : (b : Bool) → eqb k e.number ≡ b → held j (without k m) ≡ held j m
          → held j (cond b (without k m) (e ∷ without k m)) ≡ eqb j e.number || held j m
      go true q h = rw (ne_eqb j e.number (λ s. d (s ∙ sym (eqb-true k e.number q)))) h
      go false q h = rw h

  lookup-past : (ts : List ℕ) (m : List Entry) → lookup j (m ++ (entry k ts ∷ [])) ≡ lookup j m
  unfolding lookup
  lookup-past ts [] = rw (ne_eqb j k d)
  lookup-past ts (e ∷ m) = rw (lookup-past ts m)

  held-past : (ts : List ℕ) (m : List Entry) → held j (m ++ (entry k ts ∷ [])) ≡ held j m
  unfolding held
  held-past ts [] = rw (ne_eqb j k d)
  held-past ts (e ∷ m) = rw (held-past ts m)

  -- put and drop touch no other number
  pub others-stay : (m : List Entry) (ts : List ℕ)
      → ((lookup j (done m (Map.put k ts)) ≡ lookup j m) × (held j (done m (Map.put k ts)) ≡ held j m)) × ((lookup j (done m (Map.drop k)) ≡ lookup j m) × (held j (done m (Map.drop k)) ≡ held j m))
  unfolding done
  others-stay m ts =
      ((lookup-past ts (without k m) ∙ lookup-without m, held-past ts (without k m) ∙ held-without m), (lookup-without m, held-without m))

held-last : (k : ℕ) (ts : List ℕ) (m : List Entry) → held k (m ++ (entry k ts ∷ [])) ≡ true
unfolding held
held-last k ts [] = rw (eq-eqb k k refl)
held-last k ts (e ∷ m) = rw (held-last k ts m) (or-true (eqb k e.number))
  where
    or-true : (b : Bool) → b || true ≡ true
    or-true true = refl
    or-true false = refl

-- what was put is found, what was dropped is gone
pub put-found : (k : ℕ) (ts : List ℕ) (m : List Entry) → (held k (done m (Map.put k ts)) ≡ true) × (lookup k (done m (Map.put k ts)) ≡ ts)
unfolding done
put-found k ts m = (held-last k ts (without k m), lookup-last k ts (without k m) (gone k m))

pub drop-gone : (k : ℕ) (m : List Entry) → held k (done m (Map.drop k)) ≡ false
unfolding done
drop-gone k m = gone k m
