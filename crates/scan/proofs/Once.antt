-- A list that holds each number below its length once is a permutation of them. Assumes nothing.
use mathlib.Core.Path.{◌≡◌, refl}
use mathlib.Core.Bool.{true}
use mathlib.Core.List.{List}
use Prim.Native.Nat.{ℕ, ◌≤◌, ◌<◌}
use native.Mathlib.Nat.{lt_irrefl}
use native.Mathlib.Omega.{arith}
use lib.ListN.{length, get_or}
use Rattle.scan.specs.Scan.{count_of, each_once, Perm}
use Rattle.scan.proofs.Counts.{total-short, total-full, total-ones, once-all, once-at, count-two, either, split}

pub once : (s : List ℕ) → each_once s ≡ true → (i : ℕ) → i < length s → count_of i s ≡ 1
unfolding each_once
once s e = once-at (length s) s e

pub bound : (s : List ℕ) → each_once s ≡ true → (k : ℕ) → k < length s → get_or s k 0 < length s
bound s e k h =
    split (get_or s k 0) (length s) (λ l. l)
    (λ g. absurd (lt_irrefl (length s) (omega (arith, total-ones (length s) s (once s e), total-short (length s) s k h g))))

distinct : (s : List ℕ) → each_once s ≡ true → (j k : ℕ) → j < length s → k < length s → get_or s j 0 ≡ get_or s k 0 → j ≡ k
distinct s e j k p q same =
    let one = once s e (get_or s k 0) (bound s e k q) in
    split j k (λ l. absurd (lt_irrefl 1 (omega (arith, count-two (get_or s k 0) j k s l q same refl))))
    (λ g. either j k (λ r. r) (λ d. absurd (lt_irrefl 1 (omega (arith, count-two (get_or s k 0) k j s (omega arith) p refl same)))))

-- the scan that passes check 11
pub perm : (s : List ℕ) → each_once s ≡ true → Perm s (length s)
perm s e = record { size = refl; bound = bound s e; distinct = distinct s e }

pub perm-of : (s : List ℕ) (n : ℕ) → length s ≡ n → each_once s ≡ true → Perm s n
perm-of s n l e = rw l at (perm s e)

-- counts of at least 1, and no entry past the end, are enough
pub each-once : (s : List ℕ) → ((i : ℕ) → i < length s → 1 ≤ count_of i s) → ((k : ℕ) → k < length s → get_or s k 0 < length s) → each_once s ≡ true
unfolding each_once
each-once s many below = once-all (length s) s many (total-full (length s) s below)
