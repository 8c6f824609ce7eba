-- What a packed room stands for, entry by entry. Assumes nothing.
use mathlib.Core.Path.{◌≡◌, refl, ap, ap₂, ◌∙◌, sym}
use mathlib.Core.Bool.{Bool, true, false, cond}
use mathlib.Core.List.{List, [], ◌∷◌}
use Prim.Native.Nat.{ℕ, zero, suc, ◌+◌, ◌*◌, ◌/◌, ◌%◌, ◌≤◌, ◌<◌}
use native.Mathlib.Omega.{arith}
use borrow.Author.Tests.{eqb-true, ne_eqb}
use lib.Dec.{eqb}
use lib.ListN.{length, get_or, set, replicate}
use Rattle.half_bytes.specs.Packed.{wide, unpacked, kept}

pub unpacked-length : (xs : List ℕ) → length (unpacked xs) ≡ 2 * length xs
unfolding unpacked
unpacked-length [] = refl
unpacked-length (x ∷ xs) = omega (arith, unpacked-length xs)

-- cleared room stands for cleared room
pub unpacked-cleared : (n : ℕ) → unpacked (replicate n 255) ≡ replicate (2 * n) 255
unfolding unpacked wide
unpacked-cleared zero = refl
unpacked-cleared (suc n) =
    let two : 2 * suc n ≡ suc (suc (2 * n)) = omega arith in
    rw two (ap (λ (l : List ℕ). 255 ∷ 255 ∷ l) (unpacked-cleared n))

-- ---- a choice is kept
pub kept-few : (c : ℕ) → c ≤ 14 → kept c ≡ c
unfolding kept wide
kept-few c h =
    let same : c % 16 ≡ c = omega arith in
    rw (same, ne_eqb c 15 (λ (e : c ≡ 15). omega (arith, e)))

pub kept-none : (c : ℕ) → c ≡ 255 → kept c ≡ c
unfolding kept wide
kept-none c e = rw e

pub kept-wide : (h : ℕ) → h < 16 → kept h ≡ wide h
unfolding kept
kept-wide h few =
    let same : h % 16 ≡ h = omega arith in
    rw same

-- half a byte that is no "none" is the choice it stands for
pub wide-few : (h c : ℕ) → wide h ≡ c → c ≤ 14 → h ≡ c
unfolding wide
wide-few h c e few = go (eqb h 15) refl e
  where
    go : (t : Bool) → eqb h 15 ≡ t → cond t 255 h ≡ c → h ≡ c
    go true f k = absurd (omega (arith, k, few))
    go false f k = k

-- ---- a byte written stands for two entries written
low_half : (a b : ℕ) → (a % 16 + 16 * (b % 16)) % 16 ≡ a % 16
low_half a b = omega arith

high_half : (a b : ℕ) → (a % 16 + 16 * (b % 16)) / 16 ≡ b % 16
high_half a b = omega arith

pub unpacked-set : (xs : List ℕ) (k a b : ℕ) → unpacked (set xs k (a % 16 + 16 * (b % 16))) ≡ set (set (unpacked xs) (2 * k) (kept a)) (2 * k + 1) (kept b)
unfolding unpacked kept
unpacked-set [] k a b = refl
unpacked-set (x ∷ xs) zero a b = ap₂ (λ (c d : ℕ). c ∷ d ∷ unpacked xs) (ap wide (low_half a b)) (ap wide (high_half a b))
unpacked-set (x ∷ xs) (suc k) a b =
    let two : 2 * suc k ≡ suc (suc (2 * k)) = omega arith in
    let three : 2 * suc k + 1 ≡ suc (suc (2 * k + 1)) = omega arith in
    rw (three, two) (ap (λ (l : List ℕ). wide (x % 16) ∷ wide (x / 16) ∷ l) (unpacked-set xs k a b))

-- ---- an entry read
unpacked-low : (xs : List ℕ) (k : ℕ) → k < length xs → get_or (unpacked xs) (2 * k) 0 ≡ wide (get_or xs k 0 % 16)
unfolding unpacked
unpacked-low [] k h = absurd (omega arith)
unpacked-low (x ∷ xs) zero h = refl
unpacked-low (x ∷ xs) (suc k) h =
    let two : 2 * suc k ≡ suc (suc (2 * k)) = omega arith in
    rw two (unpacked-low xs k (omega arith))

unpacked-high : (xs : List ℕ) (k : ℕ) → k < length xs → get_or (unpacked xs) (2 * k + 1) 0 ≡ wide (get_or xs k 0 / 16)
unfolding unpacked
unpacked-high [] k h = absurd (omega arith)
unpacked-high (x ∷ xs) zero h = refl
unpacked-high (x ∷ xs) (suc k) h =
    let two : 2 * suc k + 1 ≡ suc (suc (2 * k + 1)) = omega arith in
    rw two (unpacked-high xs k (omega arith))

pub low-at : (xs : List ℕ) (k p : ℕ) → k < length xs → p ≡ 0 → wide (get_or xs k 0 % 16) ≡ get_or (unpacked xs) (2 * k + p) 0
low-at xs k p h e =
    let at : 2 * k + p ≡ 2 * k = omega arith in
    rw at (sym (unpacked-low xs k h))

pub high-at : (xs : List ℕ) (k p : ℕ) → k < length xs → p ≤ 1 → (p ≡ 0 → ⊥) → wide (get_or xs k 0 / 16) ≡ get_or (unpacked xs) (2 * k + p) 0
high-at xs k p h l n =
    let one : p ≡ 1 = omega (arith, n) in
    rw one (sym (unpacked-high xs k h))

-- rooms that stand for rooms of one length have one length
pub unpacked-size : (xs ys : List ℕ) → length (unpacked xs) ≡ length (unpacked ys) → length xs ≡ length ys
unpacked-size xs ys e = omega (arith, e, unpacked-length xs, unpacked-length ys)
