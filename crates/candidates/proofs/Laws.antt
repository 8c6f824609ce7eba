-- What holds of every list of candidates: the current level comes first, there are one to five, no two are equal, and each lies within
-- ±32,768. Assumes nothing.
use mathlib.Core.Path.{◌≡◌, refl, sym, ap, ◌∙◌, subst}
use mathlib.Core.Bool.{Bool, true, false, not, cond, ◌&&◌}
use mathlib.Core.List.{List, [], ◌∷◌}
use Prim.Native.Nat.{ℕ, zero, suc, ◌+◌, ◌-◌, ◌≤◌, ◌<◌, suc-le-suc, zero-le}
use native.Mathlib.Nat.{le_refl, le_trans, le-suc, le_of_suc-le-suc, not-suc-le-zero}
use native.Mathlib.Omega.{arith}
use lib.Dec.{T, leb, le→leb, leb→le, lit≤, T_not}
use lib.Ieee.{Float}
use lib.Ieee.Fits.{and_i, and_l, and_r}
use lib.IntN.{ℤ, pos, negsuc, nat_abs, suc_ℤ, pred_ℤ}
use lib.ListN.{length, get_or, replicate, length-append, length-replicate, get_or-append}
use Rattle.candidates.specs.Nearest.{nearest_of, is_ideal}
use Rattle.candidates.specs.Candidates.{eq_z, without, drop_repeats, toward_zero, settled, kept_of, restored_of, candidates_of, filled, is_current}
use Rattle.candidates.proofs.Rounding.{nearest_in}
use Rattle.candidates.proofs.Levels.{eq-eq_z, wider, current-size, suc-in, pred_in}

-- ---- a test that every level of a list passes
unfoldable pub every : (ℤ → Bool) → List ℤ → Bool
every p [] = true
every p (x ∷ xs) = p x && every p xs

-- no two levels of a list are equal
unfoldable pub distinct : List ℤ → Bool
unfolding every
distinct [] = true
distinct (x ∷ xs) = every (λ y. not (eq_z x y)) xs && distinct xs

every-without : (p : ℤ → Bool) (q : ℤ) (xs : List ℤ) → T (every p xs) → T (every p (without q xs))
unfolding every without
every-without p q [] t = tt
every-without p q (x ∷ xs) t = go (eq_z q x) (every-without p q xs (and_r (p x) (every p xs) t))
  where
    go : (b : Bool) → T (every p (without q xs)) → T (every p (cond b (without q xs) (x ∷ without q xs)))
    go true h = h
    go false h = and_i (p x) (every p (without q xs)) (and_l (p x) (every p xs) t) h

gone : (q : ℤ) (xs : List ℤ) → T (every (λ y. not (eq_z q y)) (without q xs))
unfolding every without
gone q [] = tt
gone q (x ∷ xs) = go (eq_z q x) refl (gone q xs)
  where
    go : (b : Bool) → eq_z q x ≡ b → T (every (λ y. not (eq_z q y)) (without q xs)) → T (every (λ y. not (eq_z q y)) (cond b (without q xs) (x ∷ without q xs)))
    go true e h = h
    go false e h = and_i (not (eq_z q x)) (every (λ y. not (eq_z q y)) (without q xs)) (subst (λ (b : Bool). T (not b)) (sym e) tt) h

distinct_without : (q : ℤ) (xs : List ℤ) → T (distinct xs) → T (distinct (without q xs))
unfolding distinct without
distinct_without q [] t = tt
distinct_without q (x ∷ xs) t = go (eq_z q x) (distinct_without q xs (and_r (every (λ y. not (eq_z x y)) xs) (distinct xs) t))
  where
    go : (b : Bool) → T (distinct (without q xs)) → T (distinct (cond b (without q xs) (x ∷ without q xs)))
    go true h = h
    go false h = and_i (every (λ y. not (eq_z x y)) (without q xs)) (distinct (without q xs)) (every-without (λ y. not (eq_z x y)) q xs (and_l (every (λ y. not (eq_z x y)) xs) (distinct xs) t)) h

length_without : (q : ℤ) (xs : List ℤ) → length (without q xs) ≤ length xs
unfolding without
length_without q [] = le_refl 0
length_without q (x ∷ xs) = go (eq_z q x) (length_without q xs)
  where
    go : (b : Bool) → length (without q xs) ≤ length xs → length (cond b (without q xs) (x ∷ without q xs)) ≤ suc (length xs)
    go true h = le_trans h (le-suc (length xs))
    go false h = suc-le-suc h

-- ---- of a list with its repeats dropped

every_drop : (p : ℤ → Bool) (xs : List ℤ) → T (every p xs) → T (every p (drop_repeats xs))
unfolding every drop_repeats
every_drop p [] t = tt
every_drop p (x ∷ xs) t = and_i (p x) (every p (without x (drop_repeats xs))) (and_l (p x) (every p xs) t) (every-without p x (drop_repeats xs) (every_drop p xs (and_r (p x) (every p xs) t)))

distinct-drop : (xs : List ℤ) → T (distinct (drop_repeats xs))
unfolding distinct drop_repeats
distinct-drop [] = tt
distinct-drop (x ∷ xs) = and_i (every (λ y. not (eq_z x y)) (without x (drop_repeats xs))) (distinct (without x (drop_repeats xs))) (gone x (drop_repeats xs)) (distinct_without x (drop_repeats xs) (distinct-drop xs))

length-drop-repeats : (xs : List ℤ) → length (drop_repeats xs) ≤ length xs
unfolding drop_repeats
length-drop-repeats [] = le_refl 0
length-drop-repeats (x ∷ xs) = suc-le-suc (le_trans (length_without x (drop_repeats xs)) (length-drop-repeats xs))

-- ---- at an index

pub every-at : (p : ℤ → Bool) (xs : List ℤ) (k : ℕ) → T (every p xs) → k < length xs → T (p (get_or xs k (pos 0)))
unfolding every
every-at p [] k t h = absurd (not-suc-le-zero h)
every-at p (x ∷ xs) zero t h = and_l (p x) (every p xs) t
every-at p (x ∷ xs) (suc k) t h = every-at p xs k (and_r (p x) (every p xs) t) (le_of_suc-le-suc h)

pub distinct-at : (xs : List ℤ) (i j : ℕ) → T (distinct xs) → i < j → j < length xs → get_or xs i (pos 0) ≡ get_or xs j (pos 0) → ⊥
unfolding distinct
distinct-at [] i j t l h e = not-suc-le-zero h
distinct-at (x ∷ xs) i zero t l h e = not-suc-le-zero l
distinct-at (x ∷ xs) zero (suc j) t l h e =
    T_not (eq_z x (get_or xs j (pos 0))) (every-at (λ y. not (eq_z x y)) xs j (and_l (every (λ y. not (eq_z x y)) xs) (distinct xs) t) (le_of_suc-le-suc h)) (subst T (sym (eq-eq_z x (get_or xs j (pos 0)) e)) tt)
distinct-at (x ∷ xs) (suc i) (suc j) t l h e = distinct-at xs i j (and_r (every (λ y. not (eq_z x y)) xs) (distinct xs) t) (le_of_suc-le-suc l) (le_of_suc-le-suc h) e

-- ---- of the candidates

-- within ±32,768
abbrev pub within : ℤ → Bool
within q = leb (nat_abs q) 32768

-- What holds of a list of candidates for the current level q.
pub record Listed (q : ℤ) (xs : List ℤ) : Type 0 where
  pub first : get_or xs 0 (pos 0) ≡ q
  pub some : 1 ≤ length xs
  pub five : length xs ≤ 5
  pub apart : T (distinct xs)
  pub inside : T (every within xs)

toward-in : (q : ℤ) → nat_abs q ≤ 32767 → nat_abs (toward_zero q) ≤ 32768
toward-in (pos zero) h = lit≤ tt
toward-in (pos (suc n)) h = omega arith
toward-in (negsuc zero) h = lit≤ tt
toward-in (negsuc (suc n)) h = omega arith

inside : (q : ℤ) → nat_abs q ≤ 32768 → T (within q)
inside q h = le→leb (nat_abs q) 32768 h

of-drop : (q : ℤ) (xs : List ℤ) → length xs ≤ 4 → T (every within (q ∷ xs)) → Listed q (drop_repeats (q ∷ xs))
unfolding drop_repeats
of-drop q xs h t = record {
  first = refl;
  some = suc-le-suc zero-le;
  five = le_trans (length-drop-repeats (q ∷ xs)) (suc-le-suc h);
  apart = distinct-drop (q ∷ xs);
  inside = every_drop within (q ∷ xs) t;
}

kept-listed : (q : ℤ) → T (is_current q) → Listed q (kept_of q)
unfolding kept_of every
kept-listed q h =
    let k = current-size q h in
    of-drop q (toward_zero q ∷ pos 0 ∷ []) (lit≤ tt)
    (and_i (within q) (within (toward_zero q) && true) (inside q (wider k)) (and_i (within (toward_zero q)) true (inside (toward_zero q) (toward-in q k)) tt))

sole_listed : (q : ℤ) → T (is_current q) → Listed q (q ∷ [])
unfolding distinct
sole_listed q h = record { first = refl; some = le_refl 1; five = lit≤ tt; apart = tt; inside = and_i (within q) true (inside q (wider (current-size q h))) tt }

restored-listed : (x : Float) (q : ℤ) → T (is_ideal x) → T (is_current q) → Listed q (restored_of x q)
unfolding restored_of every
restored-listed x q i h = go (settled x)
  where
    go : (b : Bool) → Listed q (cond b (q ∷ []) (drop_repeats (q ∷ pos 0 ∷ nearest_of x ∷ pred_ℤ (nearest_of x) ∷ suc_ℤ (nearest_of x) ∷ [])))
    go true = sole_listed q h
    go false =
        let r = nearest_of x in
        let k = nearest_in x i in
        of-drop q (pos 0 ∷ r ∷ pred_ℤ r ∷ suc_ℤ r ∷ []) (lit≤ tt)
        (and_i (within q) (within r && (within (pred_ℤ r) && (within (suc_ℤ r) && true))) (inside q (wider (current-size q h)))
        (and_i (within r) (within (pred_ℤ r) && (within (suc_ℤ r) && true)) (inside r (wider k))
        (and_i (within (pred_ℤ r)) (within (suc_ℤ r) && true) (inside (pred_ℤ r) (pred_in r k)) (and_i (within (suc_ℤ r)) true (inside (suc_ℤ r) (suc-in r k)) tt))))

pub candidates-listed : (x : Float) (q : ℤ) (restore : Bool) → T (is_ideal x) → T (is_current q) → Listed q (candidates_of x q restore)
unfolding candidates_of
candidates-listed x q true i h = restored-listed x q i h
candidates-listed x q false i h = kept-listed q h

-- zero stands at one place at most
pub zero-once : {q : ℤ} {xs : List ℤ} → Listed q xs → (i j : ℕ) → i < j → j < length xs → get_or xs i (pos 0) ≡ pos 0 → get_or xs j (pos 0) ≡ pos 0 → ⊥
zero-once {q} {xs} l i j h k e f = distinct-at xs i j l.apart h k (e ∙ sym f)

-- a sole candidate is the current level
pub sole : (q : ℤ) (xs : List ℤ) → Listed q xs → length xs ≡ 1 → xs ≡ q ∷ []
sole q [] l e = absurd (none e)
  where
    none : ◌≡◌ {A = ℕ} 0 1 → ⊥
    none e = omega arith
sole q (x ∷ []) l e = ap (λ (z : ℤ). z ∷ []) l.first
sole q (x ∷ y ∷ ys) l e = absurd (none (length ys) e)
  where
    none : (n : ℕ) → suc (suc n) ≡ 1 → ⊥
    none n e = omega arith

-- each lies within ±32,768
pub inside-at : {q : ℤ} {xs : List ℤ} → Listed q xs → (k : ℕ) → k < length xs → nat_abs (get_or xs k (pos 0)) ≤ 32768
inside-at {q} {xs} l k h = leb→le (nat_abs (get_or xs k (pos 0))) 32768 (every-at within xs k l.inside h)

-- ---- as the code holds them

pub filled_at : (q : ℤ) (xs : List ℤ) (k : ℕ) → k < length xs → get_or (filled q xs).levels k (pos 0) ≡ get_or xs k (pos 0)
unfolding filled
filled_at q xs k h = get_or-append xs (replicate (5 - length xs) q) (pos 0) k h

pub filled-length : (q : ℤ) (xs : List ℤ) → length xs ≤ 5 → length (filled q xs).levels ≡ 5
unfolding filled
filled-length q xs h = length-append xs (replicate (5 - length xs) q) ∙ ap (λ (n : ℕ). length xs + n) (length-replicate (5 - length xs) q) ∙ omega arith

pub filled-count : (q : ℤ) (xs : List ℤ) → (filled q xs).count ≡ length xs
unfolding filled
filled-count q xs = refl
